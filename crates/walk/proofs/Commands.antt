-- Each command of the table, passed or refused, as the contracts of the command functions have it.
use mathlib.Core.Path.{◌≡◌, refl, ◌∙◌}
use mathlib.Core.Bool.{Bool, true, false, false≢true, or-true, ◌&&◌, ◌||◌}
use mathlib.Core.List.{List, [], ◌∷◌, ◌++◌}
use mathlib.Core.Logic.{◌≢◌}
use Prim.Native.Nat.{ℕ, suc, ◌+◌, ◌-◌, ◌*◌, ◌<◌, ◌≤◌}
use native.Mathlib.Nat.{mul-le-mul, mul-le-mul_left, mul-le-mul_right, mul_left_comm}
use native.Mathlib.Omega.{arith}
use lib.Dec.{eqb}
use lib.ListN.{length, get_or, drop, length-drop}
use lib.Seq.{get_or-drop, drop-drop}
use borrow.Author.Tests.{lt-ltb, le-ltb, eq-eqb, ne_eqb, le-leb, lt-leb}
use Rattle.format.specs.Machine.{none, Rules, Open, a_group, a_repeat, first_of, refusal, place_of, operands, is_node, is_close, is_known, put_step, enter_group, leave_group, enter_repeat, leave_repeat, with_step, group_entered, repeat_entered, after_group, after_repeat, label_operand, times}
use Rattle.format.specs.Limits.{in_one_byte}
use Rattle.format.specs.declared.kind.Limits.{Limits}
use Rattle.format.specs.declared.tally.Tally.{Tally}
use Rattle.format.proofs.Machine.{Opens, opens, opens_advance, repeat_checks, refusal_step, refusal_group, refusal_group_end, refusal_repeat, refusal_repeat_end, repeat_passes, group_end_passes, repeat_end_passes, scan_step, scan_group, scan_group_end, scan_past, scan_repeat_end}
use Rattle.walk.specs.Walk.{rules_of, At, OpensAt, Halted, Room, Grown, OpenAt, ItemRead, OpenRead, CloseRead, in_group_of, in_repeat_of, count_at, width_at, repeat_at, barred}
use Rattle.walk.specs.declared.command.Terms.{Terms}
use Rattle.walk.specs.declared.command.Depth.{Depth}
use Rattle.walk.proofs.Walking.{at, cut_one, cut_two, stop, stop_end, item_refused, open_refused, close_refused}

-- The label behind a `10` or `11`.
label_at : (s : List ℕ) (p : ℕ) → label_operand (drop (p + 1) s) ≡ get_or s (p + 1) 0
label_at s p =
    let e : p + 1 + 0 ≡ p + 1 = omega arith in
    simp (get_or-drop, e)

-- What is left behind a command, in numbers.
rest_short : (s : List ℕ) (p k : ℕ) → p < length s → length s < p + suc k → length (drop (p + 1) s) < k
rest_short s p k h e = rw length-drop (omega arith)

rest_long : (s : List ℕ) (p k : ℕ) → p + suc k ≤ length s → k ≤ length (drop (p + 1) s)
rest_long s p k h = rw length-drop (omega arith)

module _ (a : Terms) (s : List ℕ) (d : Depth) (p : ℕ) (t : Tally) where
  abbrev R : Rules
  R = rules_of a

  -- `10`
  pub step_short : At s p 0x10 → length s < p + 2 → ItemRead R s d p t (record { refusal = 3; at = length s; tally = none })
  step_short h e =
      item_refused R s d p t _ (λ z. omega arith)
      (λ os o x. stop R s p os t x 3 h.below (omega arith) (rw (h.byte, refusal_step R (at os t x) (drop (p + 1) s), lt-ltb _ _ (rest_short s p 1 h.below e))))

  pub step_barred : At s p 0x10 → p + 2 ≤ length s → barred a.costs.marks.now (get_or s (p + 1) 0) d ≡ true → ItemRead R s d p t (record { refusal = 19; at = p; tally = none })
  step_barred h e f =
      item_refused R s d p t _ (λ z. omega arith)
      (λ os o x. stop R s p os t x 19 h.below (omega arith) (rw (h.byte, refusal_step R (at os t x) (drop (p + 1) s), le-ltb _ _ (rest_long s p 1 e), label_at s p, o.repeats, f)))

  pub step_full : At s p 0x10 → p + 2 ≤ length s → barred a.costs.marks.now (get_or s (p + 1) 0) d ≡ false → a.limits.nodes ≤ t.nodes → ItemRead R s d p t (record { refusal = 10; at = p; tally = none })
  step_full h e b f =
      item_refused R s d p t _ (λ z. omega arith)
      (λ os o x. stop R s p os t x 10 h.below (omega arith) (rw (h.byte, refusal_step R (at os t x) (drop (p + 1) s), le-ltb _ _ (rest_long s p 1 e), label_at s p, o.repeats, b, lt-ltb a.limits.nodes (t.nodes + 1) (omega arith))))

  pub step_on : At s p 0x10 → p + 2 ≤ length s → barred a.costs.marks.now (get_or s (p + 1) 0) d ≡ false → t.nodes < a.limits.nodes → (k : ℕ) → k ≡ get_or a.costs.steps.now (get_or s (p + 1) 0) 0 → k < 65536 → ItemRead R s d p t (record { refusal = 0; at = p + 2; tally = with_step t k })
  unfolding put_step
  step_on h e b f k q g =
      record {
        moves = record {
          goes = λ z os o x. (x ++ 0x10 ∷ get_or s (p + 1) 0 ∷ [], rw (cut_two s p e, h.byte, q) (scan_step R p (at os t x) (drop (p + 2) s) (get_or s (p + 1) 0) (refusal_step R (at os t x) (get_or s (p + 1) 0 ∷ drop (p + 2) s) ∙ rw (o.repeats, b, le-ltb a.limits.nodes (t.nodes + 1) (omega arith), le-ltb (suc (length (drop (p + 2) s))) 1 (omega arith)))));
          stops = λ z. absurd (z refl);
        };
        ahead = λ z. omega arith;
        within = λ z. e;
        grown = λ z. omega arith;
      }

  -- `11`
  pub group_banned : At s p 0x11 → a.limits.groups ≡ 0 → (o : Open) → OpenRead R s d (in_group_of d) p t o 2 1 65535 (record { refusal = 21; at = p; tally = none })
  group_banned h e o =
      open_refused R s d p t _ (λ z. omega arith) (in_group_of d) o 2 1 65535
      (λ os m x. stop R s p os t x 21 h.below (omega arith) (rw (h.byte, refusal_group R (at os t x) (drop (p + 1) s), eq-eqb _ _ e)))

  -- Where groups may be open, 21 does not apply.
  some_groups : d.groups < a.limits.groups → eqb a.limits.groups 0 ≡ false
  some_groups e = ne_eqb a.limits.groups 0 (omega arith)

  pub group_short : At s p 0x11 → (a.limits.groups ≡ 0 → ⊥) → length s < p + 2 → (o : Open) → OpenRead R s d (in_group_of d) p t o 2 1 65535 (record { refusal = 3; at = length s; tally = none })
  group_short h some e o =
      open_refused R s d p t _ (λ z. omega arith) (in_group_of d) o 2 1 65535
      (λ os m x. stop R s p os t x 3 h.below (omega arith) (rw (h.byte, refusal_group R (at os t x) (drop (p + 1) s), ne_eqb _ _ some, lt-ltb _ _ (rest_short s p 1 h.below e))))

  pub group_deep : At s p 0x11 → (a.limits.groups ≡ 0 → ⊥) → p + 2 ≤ length s → a.limits.groups ≤ d.groups → (o : Open) → OpenRead R s d (in_group_of d) p t o 2 1 65535 (record { refusal = 8; at = p; tally = none })
  group_deep h some e f o =
      open_refused R s d p t _ (λ z. omega arith) (in_group_of d) o 2 1 65535
      (λ os m x. stop R s p os t x 8 h.below (omega arith) (rw (h.byte, refusal_group R (at os t x) (drop (p + 1) s), ne_eqb _ _ some, le-ltb _ _ (rest_long s p 1 e), m.groups, le-leb a.limits.groups d.groups f)))

  pub group_barred : At s p 0x11 → p + 2 ≤ length s → d.groups < a.limits.groups → barred a.costs.marks.now (get_or s (p + 1) 0) d ≡ true → (o : Open) → OpenRead R s d (in_group_of d) p t o 2 1 65535 (record { refusal = 19; at = p; tally = none })
  group_barred h e f b o =
      open_refused R s d p t _ (λ z. omega arith) (in_group_of d) o 2 1 65535
      (λ os m x. stop R s p os t x 19 h.below (omega arith) (rw (h.byte, refusal_group R (at os t x) (drop (p + 1) s), some_groups f, le-ltb _ _ (rest_long s p 1 e), m.groups, lt-leb a.limits.groups d.groups f, label_at s p, m.repeats, b)))

  pub group_full : At s p 0x11 → p + 2 ≤ length s → d.groups < a.limits.groups → barred a.costs.marks.now (get_or s (p + 1) 0) d ≡ false → a.limits.nodes ≤ t.nodes → (o : Open) → OpenRead R s d (in_group_of d) p t o 2 1 65535 (record { refusal = 10; at = p; tally = none })
  group_full h e f b g o =
      open_refused R s d p t _ (λ z. omega arith) (in_group_of d) o 2 1 65535
      (λ os m x. stop R s p os t x 10 h.below (omega arith) (rw (h.byte, refusal_group R (at os t x) (drop (p + 1) s), some_groups f, le-ltb _ _ (rest_long s p 1 e), m.groups, lt-leb a.limits.groups d.groups f, label_at s p, m.repeats, b, lt-ltb a.limits.nodes (t.nodes + 1) (omega arith))))

  pub group_on : Room a.limits d t → At s p 0x11 → p + 2 ≤ length s → d.groups < a.limits.groups → barred a.costs.marks.now (get_or s (p + 1) 0) d ≡ false → t.nodes < a.limits.nodes → (k : ℕ) → k ≡ get_or a.costs.groups.now (get_or s (p + 1) 0) 0 → k < 65536 → OpenRead R s d (in_group_of d) p t (a_group t) 2 1 65535 (record { refusal = 0; at = p + 2; tally = group_entered d.groups t k })
  unfolding enter_group
  group_on room h e f b g k q j =
      record {
        moves = record {
          goes = λ z os o x.
              (x ++ 0x11 ∷ get_or s (p + 1) 0 ∷ [], rw (cut_two s p e, h.byte, q, ← o.groups) (scan_group R p (at os t x) (drop (p + 2) s) (get_or s (p + 1) 0) (refusal_group R (at os t x) (get_or s (p + 1) 0 ∷ drop (p + 2) s) ∙ rw (some_groups f, le-ltb (suc (length (drop (p + 2) s))) 1 (omega arith), o.groups, lt-leb a.limits.groups d.groups f, o.repeats, b, le-ltb a.limits.nodes (t.nodes + 1) (omega arith)))));
          stops = λ z. absurd (z refl);
        };
        ahead = λ z. omega arith;
        within = λ z. e;
        siblings = λ z. refl;
        nodes_inside = λ z. refl;
        room = λ z. omega arith;
        size_inside = λ z. refl;
        cost_inside = λ z. omega arith;
        steps_inside = λ z. refl;
      }

-- The open of a repeat, by `20` or by `22`.
module _ (a : Terms) (s : List ℕ) (d : Depth) (p : ℕ) (t : Tally) (h : OpensAt s p a.short) (room : Room a.limits d t) where
  abbrev Q : Rules
  Q = rules_of a

  abbrev c : ℕ
  c = get_or s p 0

  abbrev rest : List ℕ
  rest = drop (p + 1) s

  command : Opens c
  command = opens c (either a.short (eqb c 0x20) (eqb c 0x22) h.byte)
    where
      either : (short x y : Bool) → (x || (short && y)) ≡ true → (x || y) ≡ true
      either short true y e = refl
      either true false y e = e
      either false false y e = absurd (false≢true e)

  known : is_known a.short c ≡ true
  known = rw h.byte (or-true (is_node c || is_close c))

  -- What the table says of it, in its own order.
  refused_repeat : (n : ℕ) → n ≢ 0 → ((os : List Open) → OpenAt d os → (x : List ℕ) → first_of (repeat_checks Q (at os t x) rest c) ≡ n) → (o : Open) → OpenRead Q s d (in_repeat_of d) p t o 0 0 4294967295 (record { refusal = n; at = place_of n p (length s); tally = none })
  refused_repeat n z e o =
      open_refused Q s d p t _ z (in_repeat_of d) o 0 0 4294967295
      (λ os m x. stop Q s p os t x n h.below z (refusal_repeat Q (at os t x) rest command room.nodes ∙ e os m x))

  pub repeat_in_run : a.folds ≡ false → (o : Open) → OpenRead Q s d (in_repeat_of d) p t o 0 0 4294967295 (record { refusal = 2; at = p; tally = none })
  repeat_in_run f = refused_repeat 2 (omega arith) (λ os m x. rw (known, f))

  module _ (folds : a.folds ≡ true) where
    pub repeat_short : length s ≤ p + operands c → (o : Open) → OpenRead Q s d (in_repeat_of d) p t o 0 0 4294967295 (record { refusal = 3; at = length s; tally = none })
    repeat_short e = refused_repeat 3 (omega arith) (λ os m x. rw (known, folds, lt-ltb _ _ (rest_short s p (operands c) h.below (omega arith))))

    module _ (long : p + operands c < length s) where
      there : operands c ≤ length rest
      there = rest_long s p (operands c) (omega arith)

      pub repeat_few : count_at s p < 2 → (o : Open) → OpenRead Q s d (in_repeat_of d) p t o 0 0 4294967295 (record { refusal = 6; at = p; tally = none })
      repeat_few e = refused_repeat 6 (omega arith) (λ os m x. rw (known, folds, le-ltb _ _ there, lt-ltb _ _ e))

      module _ (twice : 2 ≤ count_at s p) where
        pub repeat_wide : a.widest < width_at s p → (o : Open) → OpenRead Q s d (in_repeat_of d) p t o 0 0 4294967295 (record { refusal = 7; at = p; tally = none })
        repeat_wide e = refused_repeat 7 (omega arith) (λ os m x. rw (known, folds, le-ltb _ _ there, le-ltb _ _ twice, lt-ltb _ _ e))

        module _ (narrow : width_at s p ≤ a.widest) where
          pub repeat_long : (eqb c 0x20 && (a.short && in_one_byte (count_at s p) (width_at s p))) ≡ true → (o : Open) → OpenRead Q s d (in_repeat_of d) p t o 0 0 4294967295 (record { refusal = 20; at = p; tally = none })
          repeat_long e = refused_repeat 20 (omega arith) (λ os m x. rw (known, folds, le-ltb _ _ there, le-ltb _ _ twice, le-ltb _ _ narrow, e))

          module _ (fitting : (eqb c 0x20 && (a.short && in_one_byte (count_at s p) (width_at s p))) ≡ false) where
            pub repeat_deep : a.limits.repeats ≤ d.repeats → (o : Open) → OpenRead Q s d (in_repeat_of d) p t o 0 0 4294967295 (record { refusal = 8; at = p; tally = none })
            repeat_deep e =
                refused_repeat 8 (omega arith)
                (λ os m x. rw (known, folds, le-ltb _ _ there, le-ltb _ _ twice, le-ltb _ _ narrow, fitting, m.repeats, le-leb a.limits.repeats d.repeats e))

            pub repeat_on : d.repeats < a.limits.repeats → (k : ℕ) → k ≡ a.costs.first + a.costs.each * (count_at s p - 2) → k ≤ 4294967295 → OpenRead Q s d (in_repeat_of d) p t (repeat_at s p t) 0 0 4294967295 (record { refusal = 0; at = p + 1 + operands c; tally = repeat_entered t k })
            unfolding enter_repeat
            repeat_on e k q j =
                record {
                  moves = record {
                    goes = λ z os o x.
                        let pass : refusal Q (at os t x) c rest ≡ 0 = repeat_passes Q (at os t x) rest room.nodes command
                        (record { known = known; folds = folds; operand = there; twice = twice; narrow = narrow; fitting = fitting; room = omega (arith, o.repeats) }) in
                        let next : suc p + operands c ≡ p + 1 + operands c = omega arith in (
                          x,
                          rw (cut_one s p h.below, q)
                              (scan_past Q p (at os t x) c rest pass
                              ∙ rw (opens_advance command Q.prices rest (at os t x), drop-drop (operands c) (p + 1) s, next)),
                        );
                    stops = λ z. absurd (z refl);
                  };
                  ahead = λ z. omega arith;
                  within = λ z. omega arith;
                  siblings = λ z. refl;
                  nodes_inside = λ z. omega arith;
                  room = λ z. omega arith;
                  size_inside = λ z. omega arith;
                  cost_inside = λ z. omega arith;
                  steps_inside = λ z. refl;
                }

-- `12` and `21`, where a sequence has come to its end inside an open group or repeat.
module _ (a : Terms) (s : List ℕ) (d : Depth) (p : ℕ) (t i : Tally) (h : Halted s p) (within : i.nodes ≤ a.limits.nodes) where
  pub left_open : p ≡ length s → (o : Open) → (u : Tally) → CloseRead (rules_of a) s d p t i o (record { refusal = 3; at = p; tally = u })
  left_open e o u =
      close_refused (rules_of a) s d p t _ (λ z. omega arith) i o (λ os m x. stop_end (rules_of a) s p o os i x e)

  module _ (more : p ≡ length s → ⊥) where
    refused_close : (c n : ℕ) → get_or s p 0 ≡ c → eqb n 3 ≡ false → n ≢ 0 → (o : Open) → ((os : List Open) → (x : List ℕ) → refusal (rules_of a) (at (o ∷ os) i x) c (drop (p + 1) s) ≡ n) → (u : Tally) → CloseRead (rules_of a) s d p t i o (record { refusal = n; at = p; tally = u })
    refused_close c n b z y o e u =
        close_refused (rules_of a) s d p t _ y i o
        (λ os m x. stop (rules_of a) s p (o ∷ os) i x n (omega (arith, h.within)) y (rw b (e os x)) ∙ rw z)

    -- the close of a group
    pub group_empty : get_or s p 0 ≡ 0x12 → i.siblings ≡ 0 → (u : Tally) → CloseRead (rules_of a) s d p t i (a_group t) (record { refusal = 5; at = p; tally = u })
    group_empty b e =
        refused_close 0x12 5 b refl (omega arith) (a_group t)
        (λ os x. rw (refusal_group_end (rules_of a) (at (a_group t ∷ os) i x) (drop (p + 1) s) within, e))

    pub group_crossed_run : get_or s p 0 ≡ 0x21 → a.folds ≡ false → (u : Tally) → CloseRead (rules_of a) s d p t i (a_group t) (record { refusal = 2; at = p; tally = u })
    group_crossed_run b e =
        refused_close 0x21 2 b refl (omega arith) (a_group t)
        (λ os x. rw (refusal_repeat_end (rules_of a) (at (a_group t ∷ os) i x) (drop (p + 1) s), e))

    pub group_crossed : get_or s p 0 ≡ 0x21 → a.folds ≡ true → (u : Tally) → CloseRead (rules_of a) s d p t i (a_group t) (record { refusal = 4; at = p; tally = u })
    group_crossed b e =
        refused_close 0x21 4 b refl (omega arith) (a_group t)
        (λ os x. rw (refusal_repeat_end (rules_of a) (at (a_group t ∷ os) i x) (drop (p + 1) s), e))

    pub group_left : get_or s p 0 ≡ 0x12 → (i.siblings ≡ 0 → ⊥) → Grown a.limits t (after_group t i) → CloseRead (rules_of a) s d p t i (a_group t) (record { refusal = 0; at = p + 1; tally = after_group t i })
    unfolding leave_group
    group_left b e g =
        record {
          moves = record {
            goes = λ z os o x. (
              x ++ 0x12 ∷ [],
              rw (cut_one s p (omega (arith, h.within)), b)
                  (scan_group_end (rules_of a) p (at (a_group t ∷ os) i x) (drop (p + 1) s)
                  (group_end_passes (rules_of a) (at (a_group t ∷ os) i x) (drop (p + 1) s) within (record { inner = refl; some = omega arith }))),
            );
            stops = λ z. absurd (z refl);
          };
          ahead = λ z. omega arith;
          within = λ z. omega (arith, h.within);
          grown = λ z. g;
        }

    -- the close of a repeat
    module _ (folds : a.folds ≡ true) (n w : ℕ) where
      pub repeat_crossed : get_or s p 0 ≡ 0x12 → (u : Tally) → CloseRead (rules_of a) s d p t i (a_repeat n w t) (record { refusal = 4; at = p; tally = u })
      repeat_crossed b =
          refused_close 0x12 4 b refl (omega arith) (a_repeat n w t)
          (λ os x. rw (refusal_group_end (rules_of a) (at (a_repeat n w t ∷ os) i x) (drop (p + 1) s) within))

      module _ (b : get_or s p 0 ≡ 0x21) where
        pub repeat_empty : i.siblings ≡ 0 → (u : Tally) → CloseRead (rules_of a) s d p t i (a_repeat n w t) (record { refusal = 5; at = p; tally = u })
        repeat_empty e =
            refused_close 0x21 5 b refl (omega arith) (a_repeat n w t)
            (λ os x. rw (refusal_repeat_end (rules_of a) (at (a_repeat n w t ∷ os) i x) (drop (p + 1) s), folds, e))

        module _ (some : i.siblings ≡ 0 → ⊥) where
          pub repeat_full : a.limits.nodes < (after_repeat n t i).nodes → (u : Tally) → CloseRead (rules_of a) s d p t i (a_repeat n w t) (record { refusal = 10; at = p; tally = u })
          repeat_full e =
              refused_close 0x21 10 b refl (omega arith) (a_repeat n w t)
              (λ os x. rw (refusal_repeat_end (rules_of a) (at (a_repeat n w t ∷ os) i x) (drop (p + 1) s), folds, ne_eqb _ _ some, lt-ltb _ _ e))

          module _ (total : (after_repeat n t i).nodes ≤ a.limits.nodes) where
            pub repeat_untrue : (i.siblings ≡ w → ⊥) → (u : Tally) → CloseRead (rules_of a) s d p t i (a_repeat n w t) (record { refusal = 9; at = p; tally = u })
            repeat_untrue e =
                refused_close 0x21 9 b refl (omega arith) (a_repeat n w t)
                (λ os x. rw (refusal_repeat_end (rules_of a) (at (a_repeat n w t ∷ os) i x) (drop (p + 1) s), folds, ne_eqb _ _ some, le-ltb _ _ total, ne_eqb _ _ e))

            pub repeat_left : i.siblings ≡ w → Grown a.limits t (after_repeat n t i) → CloseRead (rules_of a) s d p t i (a_repeat n w t) (record { refusal = 0; at = p + 1; tally = after_repeat n t i })
            unfolding leave_repeat
            repeat_left e g =
                record {
                  moves = record {
                    goes = λ z os o x. (
                      x ++ times (n - 1) (drop t.size x),
                      rw (cut_one s p (omega (arith, h.within)), b)
                          (scan_repeat_end (rules_of a) p (at (a_repeat n w t ∷ os) i x) (drop (p + 1) s)
                          (repeat_end_passes (rules_of a) (at (a_repeat n w t ∷ os) i x) (drop (p + 1) s)
                          (record { folds = folds; inner = refl; some = omega arith; true_width = e; total = total }))),
                    );
                    stops = λ z. absurd (z refl);
                  };
                  ahead = λ z. omega arith;
                  within = λ z. omega (arith, h.within);
                  grown = λ z. g;
                }

-- What a repeat of n copies adds: m further bodies of b nodes and z bytes.
thrice : (m b z : ℕ) → z ≤ 3 * b → m * z ≤ 3 * (m * b)
thrice m b z h = rw mul_left_comm (mul-le-mul_left m h)

scaled : (m b s : ℕ) → s ≤ b → suc m * s ≤ b + m * b
scaled m b s h = omega (arith, mul-le-mul_left m h)

body : (m b : ℕ) → 1 ≤ m → b ≤ m * b
body m b h = omega (arith, mul-le-mul_right b h)

pub repeat_grown : (L : Limits) (n : ℕ) (t i : Tally) → 2 ≤ n → t.nodes + i.siblings ≤ i.nodes → 0 < i.siblings → t.size ≤ i.size → i.size + 3 * t.nodes ≤ t.size + 3 * i.nodes → i.cost + 4294967296 * t.nodes ≤ t.cost + 4294967296 * i.nodes + 4294967296 → t.steps ≤ i.steps → i.steps + t.nodes ≤ t.steps + i.nodes → (after_repeat n t i).nodes ≤ L.nodes → Grown L t (after_repeat n t i)
repeat_grown L n t i h a b c d e u v f =
    let m = n - 1 in
    let p = i.nodes - t.nodes in
    let s : suc m ≡ n = omega arith in
    let x = thrice m p (i.size - t.size) (omega arith) in
    let y : n * i.siblings ≤ p + m * p = rw s at (scaled m p i.siblings (omega arith)) in
    let z = body m p (omega arith) in
    let k : m * (i.steps - t.steps) ≤ m * p = mul-le-mul_left m (omega arith) in
    record {
      nodes = omega arith;
      total = f;
      siblings = omega arith;
      longer = omega arith;
      size = omega arith;
      cost = omega arith;
      further = omega arith;
      steps = omega arith;
    }

pub bounded : (a b m n : ℕ) → a ≤ m → b ≤ n → a * b ≤ m * n
bounded a b m n h k = mul-le-mul h k
