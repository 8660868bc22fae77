-- The bridge: the machine accepts bytes exactly when they are the byte form, in the rules' family, of a tree of the right shape,
-- with the tree's counts and its unrolled bytes. Neither prices nor limit decide which tree that is.
use mathlib.Core.Path.{◌≡◌, refl, sym, ap, ◌∙◌}
use mathlib.Core.Bool.{Bool, true, false, false≢true, cond, ◌&&◌}
use mathlib.Core.List.{List, [], ◌∷◌, ◌++◌, append_assoc, append-nil}
use mathlib.Core.Logic.{◌↔◌}
use Prim.Native.Nat.{ℕ, zero, suc, ◌+◌, ◌-◌, ◌*◌, ◌/◌, ◌%◌, ◌≤◌, ◌<◌, max}
use native.Mathlib.Nat.{zero-add}
use native.Mathlib.Omega.{arith}
use lib.ListN.{length, length-append}
use lib.Seq.{drop_at, get_or-append-add}
use borrow.Author.Tests.{lt-ltb}
use Rattle.format.specs.Limits.{Prices, in_one_byte}
use Rattle.format.specs.Order.{Bytes}
use Rattle.format.specs.Forest.{Forest, end, step, group, repeat, join, copies, unroll, siblings, nodes, steps, cost, opening, opening_size, form_in, bytes, two_bytes, holds, Plain, Allowed, Repeats, Sound, Coded, group_depth, repeat_depth, widest_of}
use Rattle.format.specs.Machine.{Rules, State, Open, a_group, a_repeat, open_groups, open_repeats, times, put_step, enter_group, leave_group, enter_repeat, leave_repeat, repeated, scan, read, start, refused, accepted, refusal}
use Rattle.format.specs.Shape.{Shaped, tally_of, Reads}
use Rattle.format.specs.declared.tally.Tally.{Tally}
use Rattle.format.proofs.Marks.{holds_both, neither, unmarked_step, unmarked_group, unmarked_repeat}
use Rattle.format.proofs.Forests.{opening_append, form_join, bytes_join, bytes_copies, siblings_join, nodes_join, steps_join, cost_join, unroll_join, join_end, sound_join, plain_join, coded_join, group_depth_join, repeat_depth_join}
use Rattle.format.proofs.Machine.{scan_end, scan_passed, refusal_other, scan_step, scan_group, scan_group_end, scan_repeat, scan_short, scan_repeat_end, step_passes, group_passes, group_end_passes, repeat_passes, repeat_end_passes, step_passed, group_passed, group_end_passed, repeat_passed, repeat_end_passed, Opens, by_two, by_one, Command, step_byte, group_byte, group_end_byte, repeat_byte, repeat_end_byte, other_byte, command, StepPasses, GroupPasses, GroupEndPasses, RepeatPasses, RepeatEndPasses}

-- The state after a sequence is read.
unfoldable pub after : Rules → Forest → State → State
after R f st =
    record {
      opens = st.opens;
      tally = record {
        siblings = st.tally.siblings + siblings f;
        nodes = st.tally.nodes + nodes f;
        size = st.tally.size + length (bytes (unroll f));
        cost = st.tally.cost + cost R.prices f;
        steps = st.tally.steps + steps f;
        depth = max st.tally.depth (open_groups st.opens + group_depth f);
      };
      text = st.text ++ bytes (unroll f);
    }

-- The state before a group's body, and before a repeat's.
abbrev pub inside_group : Rules → ℕ → State → State
inside_group R l st = enter_group R.prices l st

abbrev pub inside_repeat : Rules → (count width : ℕ) → State → State
inside_repeat R h w st = enter_repeat R.prices h w st

-- States agree when their parts do.
same_state : {st st' : State} → st.opens ≡ st'.opens → st.tally.siblings ≡ st'.tally.siblings
    → st.tally.nodes ≡ st'.tally.nodes → st.tally.size ≡ st'.tally.size → st.tally.cost ≡ st'.tally.cost
    → st.tally.steps ≡ st'.tally.steps → st.tally.depth ≡ st'.tally.depth → st.text ≡ st'.text → st ≡ st'
same_state o a b c d e g x =
    λ i. record {
      opens = o i;
      tally = record { siblings = a i; nodes = b i; size = c i; cost = d i; steps = e i; depth = g i };
      text = x i;
    }

-- All passes of a repeat, where o was counted before it and n in one pass.
repeated_all : (h o n : ℕ) → 1 ≤ h → repeated h o (o + n) ≡ o + h * n
repeated_all zero o n some = absurd (omega arith)
repeated_all (suc k) o n some =
    let d : o + n - o ≡ n = omega arith in
    let e : suc k - 1 ≡ k = omega arith in
    rw (d, e) (omega arith)

one_pass : (h n : ℕ) → 1 ≤ h → n ≤ h * n
one_pass zero n some = absurd (omega arith)
one_pass (suc h) n some = omega arith

-- Copies of a list: their length, and one more of them in front.
pub length_times : {A : Type 0} (h : ℕ) (s : List A) → length (times h s) ≡ h * length s
unfolding times
length_times zero s = omega arith
length_times (suc h) s = omega (arith, length-append s (times h s), length_times h s)

pub times_more : (h : ℕ) (s : List ℕ) → 1 ≤ h → s ++ times (h - 1) s ≡ times h s
unfolding times
times_more zero s some = absurd (omega arith)
times_more (suc k) s some = let e : suc k - 1 ≡ k = omega arith in rw e

-- What every state of a reading keeps: the text so far is as long as counted, so that a repeat finds its body's text; and as
-- many groups as are open now were open together.
pub record Kept (st : State) : Type 0 where
  pub long : length st.text ≡ st.tally.size
  pub deep : open_groups st.opens ≤ st.tally.depth

module _ (R : Rules) (st : State) where
  pub after_end : Kept st → after R end st ≡ st
  unfolding after unroll form_in siblings nodes steps cost group_depth
  after_end kept =
      same_state refl (omega arith) (omega arith) (omega arith) (omega arith) (omega arith) (omega arith) (append-nil st.text)

  pub after_join : (f g : Forest) → after R g (after R f st) ≡ after R (join f g) st
  unfolding after
  after_join f g =
      let x = ap bytes (unroll_join f g) ∙ bytes_join (unroll f) (unroll g) in
      same_state refl
      (omega (arith, siblings_join f g))
      (omega (arith, nodes_join f g))
      (omega (arith, ap length x ∙ length-append (bytes (unroll f)) (bytes (unroll g))))
      (omega (arith, cost_join R.prices f g))
      (omega (arith, steps_join f g))
      (omega (arith, group_depth_join f g))
      (append_assoc st.text (bytes (unroll f)) (bytes (unroll g)) ∙ ap (λ (y : List ℕ). st.text ++ y) (sym x))

  pub after_step : (l : ℕ) → Kept st → put_step R.prices l st ≡ after R (step l end) st
  unfolding after put_step unroll form_in siblings nodes steps cost group_depth
  after_step l kept = same_state refl refl refl refl (omega arith) refl (omega arith) refl

  pub counted_group : (l : ℕ) (b : Forest)
      → leave_group (after R b (inside_group R l st)).opens (after R b (inside_group R l st)) ≡ after R (group l b end) st
  unfolding after leave_group enter_group unroll form_in siblings nodes steps cost group_depth
  counted_group l b =
      same_state refl (omega arith) (omega arith) (simp length-append (omega arith)) (omega arith) (omega arith) (omega arith)
      (simp append_assoc)

  pub counted_repeat : (h w : ℕ) (b : Forest) → 1 ≤ h → Kept st
      → leave_repeat (after R b (inside_repeat R h w st)).opens (after R b (inside_repeat R h w st))
      ≡ after R (repeat h w b end) st
  unfolding after leave_repeat enter_repeat unroll siblings nodes steps cost group_depth
  counted_repeat h w b some kept =
      let x : List ℕ = bytes (unroll b) in
      let r : bytes (join (copies h (unroll b)) end) ≡ times h x =
      ap bytes (join_end (copies h (unroll b))) ∙ bytes_copies h (unroll b) in
      same_state refl
      (omega arith)
      (omega (arith, repeated_all h st.tally.nodes (nodes b) some))
      (repeated_all h st.tally.size (length x) some ∙ rw (r, length_times))
      (omega arith)
      (omega (arith, repeated_all h st.tally.steps (steps b) some))
      (omega arith)
      (rw (drop_at st.text x st.tally.size kept.long, r, append_assoc, times_more h x some))

  module _ (kept : Kept st) where
    kept_after : (f : Forest) → Kept (after R f st)
    unfolding after
    kept_after f = record { long = simp length-append (omega arith); deep = omega arith }

    kept_inside_group : (l : ℕ) → Kept (inside_group R l st)
    unfolding enter_group
    kept_inside_group l = record { long = simp length-append (omega arith); deep = omega arith }

    kept_inside_repeat : (h w : ℕ) → Kept (inside_repeat R h w st)
    unfolding enter_repeat
    kept_inside_repeat h w = record { long = kept.long; deep = kept.deep }

pub kept_start : Kept start
kept_start = record { long = refl; deep = omega arith }

-- Room for a sequence beside what is open and counted.
pub record RoomBeside (R : Rules) (st : State) (f : Forest) : Type 0 where
  pub groups : open_groups st.opens + group_depth f ≤ R.limits.groups
  pub repeats : open_repeats st.opens + repeat_depth f ≤ R.limits.repeats
  pub total : st.tally.nodes + nodes f ≤ R.limits.nodes

-- A sequence that may be read from a state: of the right shape, with room for it, and without marked labels inside a repeat.
pub record Fits (R : Rules) (st : State) (f : Forest) : Type 0 where
  pub coded : Coded f
  pub sound : Sound R.allowed f
  pub plain : R.folds ≡ false → Plain f
  pub room : RoomBeside R st f
  pub unmarked : 0 < open_repeats st.opens → holds R.allowed.marked f ≡ false

-- Two bytes put together again.
pub word_again : (n : ℕ) → n / 256 * 256 + n % 256 ≡ n
word_again n = omega arith

-- Where a repeat is allowed, folds are read.
true_fold : (b : Bool) → (b ≡ false → ⊥) → b ≡ true
true_fold true h = refl
true_fold false h = absurd (h refl)

-- A first item that fits is passed, and its body and what follows it fit in their turn.
module _ (R : Rules) (st : State) (l : ℕ) (f : Forest) (z : Fits R st (step l f)) where
  step_on : (s : List ℕ) → refusal R st 0x10 (l ∷ s) ≡ 0
  unfolding nodes
  step_on s = step_passes R st (l ∷ s) (record { operand = omega arith; unmarked = λ i. (unmarked_step _ l f (z.unmarked i)).0; total = omega arith })

  step_rest : Fits R (after R (step l end) st) f
  unfolding after group_depth repeat_depth nodes
  step_rest =
      record { coded = z.coded.1; sound = z.sound; plain = z.plain; room = omega arith; unmarked = λ i. (unmarked_step _ l f (z.unmarked i)).1 }

module _ (R : Rules) (st : State) (l : ℕ) (b f : Forest) (z : Fits R st (group l b f)) where
  group_opens : (s : List ℕ) → refusal R st 0x11 (l ∷ s) ≡ 0
  unfolding nodes group_depth
  group_opens s =
      group_passes R st (l ∷ s)
      (record { operand = omega arith; room = omega arith; unmarked = λ i. (unmarked_group _ l b f (z.unmarked i)).0; total = omega arith })

  group_body : Fits R (inside_group R l st) b
  unfolding enter_group group_depth repeat_depth nodes
  group_body =
      record {
        coded = z.coded.1;
        sound = z.sound.1;
        plain = λ e. (z.plain e).0;
        room = omega arith;
        unmarked = λ i. (unmarked_group _ l b f (z.unmarked i)).1;
      }

  group_closes : (s : List ℕ) → refusal R (after R b (inside_group R l st)) 0x12 s ≡ 0
  unfolding nodes after enter_group
  group_closes s =
      group_end_passes R (after R b (inside_group R l st)) s (omega arith) (record { inner = refl; some = omega arith })

  group_rest : Fits R (after R (group l b end) st) f
  unfolding after group_depth repeat_depth nodes
  group_rest =
      record {
        coded = z.coded.2;
        sound = z.sound.2;
        plain = λ e. (z.plain e).1;
        room = omega arith;
        unmarked = λ i. (unmarked_group _ l b f (z.unmarked i)).2;
      }

module _ (R : Rules) (st : State) (h w : ℕ) (b f : Forest) (z : Fits R st (repeat h w b f)) where
  repeat_opens : (s : List ℕ) → (R.short && in_one_byte h w) ≡ false → refusal R st 0x20 (two_bytes h (two_bytes w s)) ≡ 0
  unfolding repeat_depth
  repeat_opens s big =
      repeat_passes R st (two_bytes h (two_bytes w s)) (omega arith) by_two
      (record {
        known = refl;
        folds = true_fold R.folds z.plain;
        operand = omega arith;
        twice = rw (word_again h) z.sound.0.twice;
        narrow = rw (word_again w) (omega arith);
        fitting = rw (word_again h, word_again w) big;
        room = omega arith;
      })

  short_opens : (s : List ℕ) → R.short ≡ true → refusal R st 0x22 (h ∷ w ∷ s) ≡ 0
  unfolding repeat_depth
  short_opens s one =
      repeat_passes R st (h ∷ w ∷ s) (omega arith) by_one
      (record {
        known = rw one;
        folds = true_fold R.folds z.plain;
        operand = omega arith;
        twice = z.sound.0.twice;
        narrow = omega arith;
        fitting = refl;
        room = omega arith;
      })

  repeat_body : Fits R (inside_repeat R h w st) b
  unfolding enter_repeat group_depth repeat_depth nodes
  repeat_body =
      let i : nodes b ≤ h * nodes b = one_pass h (nodes b) (omega arith) in
      record {
        coded = z.coded.2;
        sound = z.sound.1;
        plain = λ e. absurd (z.plain e);
        room = omega arith;
        unmarked = λ i. z.sound.0.unmarked;
      }

  repeat_closes : (s : List ℕ) → refusal R (after R b (inside_repeat R h w st)) 0x21 s ≡ 0
  unfolding nodes after enter_repeat
  repeat_closes s =
      repeat_end_passes R (after R b (inside_repeat R h w st)) s
      (record {
        folds = true_fold R.folds z.plain;
        inner = refl;
        some = omega arith;
        true_width = omega arith;
        total = omega (arith, repeated_all h st.tally.nodes (nodes b) (omega arith));
      })

  repeat_rest : Fits R (after R (repeat h w b end) st) f
  unfolding after group_depth repeat_depth nodes
  repeat_rest =
      record {
        coded = z.coded.3;
        sound = z.sound.2;
        plain = λ e. absurd (z.plain e);
        room = omega arith;
        unmarked = λ i. (unmarked_repeat _ h w b f (z.unmarked i)).1;
      }

-- The bytes that open a repeat, whichever command does.
pub opening_length : (short : Bool) (h w : ℕ) (s : List ℕ) → length (opening short h w s) ≡ opening_size short h w + length s
opening_length short h w s = by_command (short && in_one_byte h w)
  where
    by_command : (one : Bool) → length (cond one (0x22 ∷ h ∷ w ∷ s) (0x20 ∷ two_bytes h (two_bytes w s))) ≡ cond one 3 5 + length s
    by_command true = omega arith
    by_command false = omega arith

first_true : (a b : Bool) → (a && b) ≡ true → a ≡ true
first_true true b e = refl
first_true false b e = e

-- A sequence that fits is passed, whatever follows it.
module _ (R : Rules) where
  onward : {p q : ℕ} {st st' : State} (s : List ℕ) → p ≡ q → st ≡ st' → scan R p 0 st s ≡ scan R q 0 st' s
  onward s e d = cc

  same_operands : (h w : ℕ) (st : State)
      → inside_repeat R (h / 256 * 256 + h % 256) (w / 256 * 256 + w % 256) st ≡ inside_repeat R h w st
  same_operands h w st = rw (word_again h, word_again w)

  -- The open of a repeat that fits is passed, whichever command opens it.
  scan_opening : (p : ℕ) (st : State) (h w : ℕ) (b f : Forest) → Fits R st (repeat h w b f) → (s : List ℕ)
      → scan R p 0 st (opening R.short h w s) ≡ scan R (p + opening_size R.short h w) 0 (inside_repeat R h w st) s
  scan_opening p st h w b f z s = by_command (R.short && in_one_byte h w) refl
    where
      by_command : (one : Bool) → (R.short && in_one_byte h w) ≡ one
          → scan R p 0 st (opening R.short h w s) ≡ scan R (p + opening_size R.short h w) 0 (inside_repeat R h w st) s
      by_command true e = rw e (scan_short R p st s h w (short_opens R st h w b f z s (first_true _ _ e)))
      by_command false e =
          rw e
          (scan_repeat R p st s (h / 256) (h % 256) (w / 256) (w % 256) (repeat_opens R st h w b f z s e)
          ∙ onward s refl (same_operands h w st))

  pub scan_forest : (f : Forest) (p : ℕ) (st : State) (s : List ℕ) → Fits R st f → Kept st
      → scan R p 0 st (form_in R.short f ++ s) ≡ scan R (p + length (form_in R.short f)) 0 (after R f st) s
  unfolding form_in join
  scan_forest end p st s z kept = onward s (omega arith) (sym (after_end R st kept))
  scan_forest (step l f) p st s z kept =
      let st1 : State = after R (step l end) st in
      let r : List ℕ = form_in R.short f ++ s in
      scan_step R p st r l (step_on R st l f z r)
      ∙ onward r refl (after_step R st l kept)
      ∙ scan_forest f (p + 2) st1 s (step_rest R st l f z) (kept_after R st kept (step l end))
      ∙ onward s (omega arith) (after_join R st (step l end) f)
  scan_forest (group l b f) p st s z kept =
      let inner : State = after R b (inside_group R l st) in
      let st1 : State = after R (group l b end) st in
      let q : ℕ = p + 2 + length (form_in R.short b) in
      let r : List ℕ = form_in R.short f ++ s in
      rw append_assoc
      (scan_group R p st (form_in R.short b ++ 0x12 ∷ r) l (group_opens R st l b f z (form_in R.short b ++ 0x12 ∷ r))
      ∙ scan_forest b (p + 2) (inside_group R l st) (0x12 ∷ r) (group_body R st l b f z) (kept_inside_group R st kept l)
      ∙ scan_group_end R q inner r (group_closes R st l b f z r)
      ∙ onward r refl (counted_group R st l b)
      ∙ scan_forest f (q + 1) st1 s (group_rest R st l b f z) (kept_after R st kept (group l b end))
      ∙ onward s (omega (arith, length-append (form_in R.short b) (0x12 ∷ form_in R.short f))) (after_join R st (group l b end) f))
  scan_forest (repeat h w b f) p st s z kept =
      let inner : State = after R b (inside_repeat R h w st) in
      let st1 : State = after R (repeat h w b end) st in
      let n : ℕ = opening_size R.short h w in
      let q : ℕ = p + n + length (form_in R.short b) in
      let r : List ℕ = form_in R.short f ++ s in
      let o : List ℕ = form_in R.short b ++ 0x21 ∷ r in
      rw (opening_append R.short h w (form_in R.short b ++ 0x21 ∷ form_in R.short f) s, append_assoc)
      (scan_opening p st h w b f z o
      ∙ scan_forest b (p + n) (inside_repeat R h w st) (0x21 ∷ r) (repeat_body R st h w b f z) (kept_inside_repeat R st kept h w)
      ∙ scan_repeat_end R q inner r (repeat_closes R st h w b f z r)
      ∙ onward r refl (counted_repeat R st h w b (omega arith) kept)
      ∙ scan_forest f (q + 1) st1 s (repeat_rest R st h w b f z) (kept_after R st kept (repeat h w b end))
      ∙ onward s (omega (arith, opening_length R.short h w (form_in R.short b ++ 0x21 ∷ form_in R.short f), length-append (form_in R.short b) (0x21 ∷ form_in R.short f))) (after_join R st (repeat h w b end) f))

-- The machine accepts every tree of the right shape, with the tree's counts and its unrolled bytes.
pub accepts : (R : Rules) (f : Forest) → Shaped R f
    → read R (form_in R.short f) ≡ accepted (tally_of R.prices f) (bytes (unroll f))
unfolding read tally_of after
accepts R f z =
    let fits : Fits R start f =
    record { coded = z.coded; sound = z.sound; plain = z.plain; room = omega arith; unmarked = λ i. absurd (omega arith) } in
    let deep : max start.tally.depth (group_depth f) ≡ group_depth f = omega arith in
    rw (← append-nil (form_in R.short f))
    (scan_forest R f 0 start [] fits kept_start ∙ scan_end R (0 + length (form_in R.short f)) (after R f start) ∙ simp (zero-add, deep))

-- Back: accepted bytes begin with a sequence that fits, up to where its reading stops: the end, or a close.
data Stops : List ℕ → Type 0 where
  at_nothing : Stops []
  at_group_end : {s : List ℕ} → Stops (0x12 ∷ s)
  at_repeat_end : {s : List ℕ} → Stops (0x21 ∷ s)

record Begins (R : Rules) (st : State) (s : List ℕ) : Type 0 where
  tree : Forest
  rest : List ℕ
  form : form_in R.short tree ++ rest ≡ s
  fits : Fits R st tree
  stops : Stops rest

fits_join : (R : Rules) (st : State) (f g : Forest) → Fits R st f → Fits R (after R f st) g → Fits R st (join f g)
unfolding after
fits_join R st f g y z =
    record {
      coded = coded_join f g y.coded z.coded;
      sound = sound_join R.allowed f g y.sound z.sound;
      plain = λ e. plain_join f g (y.plain e) (z.plain e);
      room = omega (arith, group_depth_join f g, repeat_depth_join f g, nodes_join f g);
      unmarked = λ i. holds_both _ f g (y.unmarked i) (z.unmarked i);
    }

room_after : (R : Rules) (st : State) (f : Forest) → RoomBeside R st f → RoomBeside R (after R f st) end
unfolding after nodes group_depth repeat_depth
room_after R st f z = omega arith

-- What a passed command leaves room for, and what its whole item then fits.
module _ (R : Rules) (st : State) (room : RoomBeside R st end) where
  step_fits : (l : ℕ) (s : List ℕ) → l < 256 → StepPasses R st (l ∷ s) → Fits R st (step l end)
  unfolding nodes group_depth repeat_depth holds
  step_fits l s small z =
      record { coded = (small, tt); sound = tt; plain = λ e. tt; room = omega arith; unmarked = λ i. neither _ _ (z.unmarked i) refl }

  group_room : (l : ℕ) (s : List ℕ) → GroupPasses R st s → RoomBeside R (inside_group R l st) end
  unfolding enter_group group_depth repeat_depth nodes
  group_room l s z = omega arith

  group_fits : (l : ℕ) (b : Forest) (s : List ℕ) → l < 256 → GroupPasses R st (l ∷ s) → Fits R (inside_group R l st) b
      → GroupEndPasses (after R b (inside_group R l st)) → Fits R st (group l b end)
  unfolding nodes group_depth repeat_depth enter_group after holds
  group_fits l b s small z y a =
      record {
        coded = (small, y.coded, tt);
        sound = (omega arith, y.sound, tt);
        plain = λ e. (y.plain e, tt);
        room = omega arith;
        unmarked = λ i. neither _ _ (z.unmarked i) (neither _ _ (y.unmarked i) refl);
      }

  repeat_room : (h w c : ℕ) (s : List ℕ) → RepeatPasses R st c s → RoomBeside R (inside_repeat R h w st) end
  unfolding enter_repeat group_depth repeat_depth nodes
  repeat_room h w c s z = omega arith

  repeat_fits : (h w : ℕ) (b : Forest) (c : ℕ) (s : List ℕ) → h < 65536 → w < 65536 → 2 ≤ h → w ≤ R.allowed.widest → RepeatPasses R st c s
      → Fits R (inside_repeat R h w st) b → RepeatEndPasses R (after R b (inside_repeat R h w st)) → Fits R st (repeat h w b end)
  unfolding nodes group_depth repeat_depth enter_repeat after holds
  repeat_fits h w b c s hs ws twice narrow z y a =
      let all : repeated h st.tally.nodes (st.tally.nodes + nodes b) ≡ st.tally.nodes + h * nodes b =
      repeated_all h st.tally.nodes (nodes b) (omega arith) in
      record {
        coded = (hs, ws, y.coded, tt);
        sound = (record { twice = twice; true_width = omega arith; within = narrow; some = omega arith; unmarked = y.unmarked (omega arith) }, y.sound, tt);
        plain = λ e. absurd (false≢true (sym e ∙ a.folds));
        room = omega arith;
        unmarked = λ i. neither _ _ (y.unmarked (omega arith)) refl;
      }

-- In an accepted reading, what is open at a stop is shut there by its own close; where nothing is open the stop is the end.
record Shut (close : ℕ) (Passes : Type 0) (rest : List ℕ) : Type 0 where
  past : List ℕ
  form : close ∷ past ≡ rest
  passes : Passes

module _ (R : Rules) (t : Tally) (x : List ℕ) where
  -- The reading from here on is accepted.
  abbrev Accepts : ℕ → State → List ℕ → Type 0
  Accepts p st s = scan R p 0 st s ≡ accepted t x

  module _ (p : ℕ) (st : State) (room : RoomBeside R st end) where
    left_open : (o : Open) (os : List Open) → st.opens ≡ o ∷ os → Accepts p st [] → ⊥
    left_open o os top e =
        let f : refused 3 p ≡ accepted t x = rw top at (sym (scan_end R p st) ∙ e) in
        let z : ◌≡◌ {A = ℕ} 0 1 = cc in
        omega arith

    group_end_there : (s : List ℕ) → Accepts p st (0x12 ∷ s) → GroupEndPasses st
    group_end_there s e = group_end_passed R st s (scan_passed R p st 0x12 s e)

    repeat_end_there : (s : List ℕ) → Accepts p st (0x21 ∷ s) → RepeatEndPasses R st
    repeat_end_there s e = repeat_end_passed R st s (scan_passed R p st 0x21 s e)

    shuts_group : {rest : List ℕ} (o : Tally) (os : List Open) → st.opens ≡ a_group o ∷ os → Stops rest → Accepts p st rest
        → Shut 0x12 (GroupEndPasses st) rest
    shuts_group o os top at_nothing e = absurd (left_open (a_group o) os top e)
    shuts_group o os top (at_group_end {s}) e = record { past = s; form = refl; passes = group_end_there s e }
    shuts_group o os top (at_repeat_end {s}) e = absurd (false≢true (rw top at (repeat_end_there s e).inner))

    shuts_repeat : {rest : List ℕ} (h w : ℕ) (o : Tally) (os : List Open) → st.opens ≡ a_repeat h w o ∷ os → Stops rest
        → Accepts p st rest → Shut 0x21 (RepeatEndPasses R st) rest
    shuts_repeat h w o os top at_nothing e = absurd (left_open (a_repeat h w o) os top e)
    shuts_repeat h w o os top (at_group_end {s}) e = absurd (false≢true (rw top at (group_end_there s e).inner))
    shuts_repeat h w o os top (at_repeat_end {s}) e = record { past = s; form = refl; passes = repeat_end_there s e }

    shuts_nothing : {rest : List ℕ} → st.opens ≡ [] → Stops rest → Accepts p st rest → rest ≡ []
    shuts_nothing top at_nothing e = refl
    shuts_nothing top (at_group_end {s}) e = absurd (false≢true (rw top at (group_end_there s e).inner))
    shuts_nothing top (at_repeat_end {s}) e = absurd (false≢true (rw top at (repeat_end_there s e).inner))

  -- Where the reading of what begins stops.
  stopped : (p : ℕ) (st : State) (s : List ℕ) (q : Begins R st s) → Kept st → Accepts p st s
      → Accepts (p + length (form_in R.short q.tree)) (after R q.tree st) q.rest
  stopped p st s q kept e = sym (scan_forest R q.tree p st q.rest q.fits kept) ∙ rw q.form e

  -- No item begins at a stop.
  none_read : (st : State) → RoomBeside R st end → (s : List ℕ) → Stops s → Begins R st s
  unfolding form_in holds
  none_read st room s stops =
      record {
        tree = end;
        rest = s;
        form = refl;
        fits = record { coded = tt; sound = tt; plain = λ e. tt; room = room; unmarked = λ i. refl };
        stops = stops;
      }

  -- What is read of at most n bytes, from any state with room.
  abbrev Parses : ℕ → Type 0
  Parses n =
      (p : ℕ) (st : State) (s : List ℕ) → length s ≤ n → Bytes s → RoomBeside R st end → Kept st → Accepts p st s → Begins R st s

  module _ (n : ℕ) (ih : Parses n) (p : ℕ) (st : State) (room : RoomBeside R st end) (kept : Kept st) where
    -- Past a first item that fits.
    past : (f : Forest) (s whole : List ℕ) → form_in R.short f ++ s ≡ whole → 0 < length (form_in R.short f) → length whole ≤ suc n
        → Bytes whole → Fits R st f → Accepts p st whole → Begins R st whole
    past f s whole form some short small fits e =
        let shorter : length s ≤ n = omega (arith, simp length-append at (ap length form)) in
        let small' : Bytes s = λ i. rw (← get_or-append-add (form_in R.short f) s i 0, form) (small (length (form_in R.short f) + i)) in
        let e' : Accepts p st (form_in R.short f ++ s) = rw form e in
        joined
        (ih (p + length (form_in R.short f)) (after R f st) s shorter small' (room_after R st f fits.room) (kept_after R st kept f)
        (sym (scan_forest R f p st s fits kept) ∙ e'))
      where
        joined : Begins R (after R f st) s → Begins R st whole
        joined q =
            record {
              tree = join f q.tree;
              rest = q.rest;
              form = rw (form_join R.short f q.tree, append_assoc, q.form) form;
              fits = fits_join R st f q.tree fits q.fits;
              stops = q.stops;
            }

    parse_step : (s : List ℕ) → length s ≤ n → Bytes (0x10 ∷ s) → StepPasses R st s → Accepts p st (0x10 ∷ s)
        → Begins R st (0x10 ∷ s)
    unfolding form_in
    parse_step [] short small z e = absurd (omega arith)
    parse_step (l ∷ s) short small z e =
        past (step l end) s (0x10 ∷ l ∷ s) refl (omega arith) (omega arith) small
        (step_fits R st room l s (small 1) z)
        e

    -- A group: its body is read, its close follows, and then the rest.
    module _ (l : ℕ) (s : List ℕ) (short : length (l ∷ s) ≤ n) (small : Bytes (0x11 ∷ l ∷ s))
        (z : GroupPasses R st (l ∷ s)) (e : Accepts p st (0x11 ∷ l ∷ s)) where
      group_shut : (q : Begins R (inside_group R l st) s)
          → Shut 0x12 (GroupEndPasses (after R q.tree (inside_group R l st))) q.rest → Begins R st (0x11 ∷ l ∷ s)
      unfolding form_in
      group_shut q y =
          past (group l q.tree end) y.past (0x11 ∷ l ∷ s)
          (rw append_assoc (cc (y.form, q.form)))
          (omega arith) (omega arith) small
          (group_fits R st room l q.tree s (small 1) z q.fits y.passes)
          e

      in_body : Accepts (p + 2) (inside_group R l st) s
      in_body = sym (scan_group R p st s l (group_passes R st (l ∷ s) z)) ∙ e

      group_read : Begins R (inside_group R l st) s → Begins R st (0x11 ∷ l ∷ s)
      unfolding after enter_group
      group_read q =
          group_shut q
          (shuts_group (p + 2 + length (form_in R.short q.tree)) (after R q.tree (inside_group R l st))
          (room_after R (inside_group R l st) q.tree q.fits.room) st.tally st.opens refl q.stops
          (stopped (p + 2) (inside_group R l st) s q (kept_inside_group R st kept l) in_body))

    parse_group : (s : List ℕ) → length s ≤ n → Bytes (0x11 ∷ s) → GroupPasses R st s → Accepts p st (0x11 ∷ s)
        → Begins R st (0x11 ∷ s)
    parse_group [] short small z e = absurd (omega arith)
    parse_group (l ∷ s) short small z e =
        group_read l s short small z e
        (ih (p + 2) (inside_group R l st) s (omega arith) (λ i. small (suc (suc i))) (group_room R st room l (l ∷ s) z)
        (kept_inside_group R st kept l)
        (in_body l s short small z e))

    -- A repeat: the same, and its operands are its bytes again, in the family's form.
    module _ (c h w : ℕ) (o s : List ℕ) (few : h < 65536) (narrow : w < 65536) (opened : (r : List ℕ) → opening R.short h w r ≡ c ∷ o ++ r)
        (short : length (o ++ s) ≤ n) (small : Bytes (c ∷ o ++ s)) (z : RepeatPasses R st c (o ++ s))
        (twice : 2 ≤ h) (within : w ≤ R.allowed.widest) (e : Accepts p st (c ∷ o ++ s)) where
      abbrev in_pass : State
      in_pass = inside_repeat R h w st

      repeat_shut : (q : Begins R in_pass s) → Shut 0x21 (RepeatEndPasses R (after R q.tree in_pass)) q.rest
          → Begins R st (c ∷ o ++ s)
      unfolding form_in
      repeat_shut q y =
          let b : List ℕ = form_in R.short q.tree in
          let written : opening R.short h w (b ++ 0x21 ∷ []) ++ y.past ≡ c ∷ o ++ s =
          opening_append R.short h w (b ++ 0x21 ∷ []) y.past
          ∙ rw (append_assoc, y.form, q.form) (opened s) in
          past (repeat h w q.tree end) y.past (c ∷ o ++ s) written
          (rw (opening_length R.short h w (b ++ 0x21 ∷ [])) (omega (arith, length-append b (0x21 ∷ []))))
          (omega arith) small
          (repeat_fits R st room h w q.tree c (o ++ s) few narrow twice within z q.fits y.passes)
          e

      repeat_read : Accepts (p + suc (length o)) in_pass s → Begins R in_pass s → Begins R st (c ∷ o ++ s)
      unfolding after enter_repeat
      repeat_read a q =
          repeat_shut q
          (shuts_repeat (p + suc (length o) + length (form_in R.short q.tree)) (after R q.tree in_pass)
          (room_after R in_pass q.tree q.fits.room) h w st.tally st.opens refl q.stops
          (stopped (p + suc (length o)) in_pass s q (kept_inside_repeat R st kept h w) a))

      parse_body : Accepts (p + suc (length o)) in_pass s → Begins R st (c ∷ o ++ s)
      parse_body a =
          let behind : Bytes s = λ i. rw (← get_or-append-add (c ∷ o) s i 0) (small (suc (length o) + i)) in
          repeat_read a
          (ih (p + suc (length o)) in_pass s (omega (arith, length-append o s)) behind (repeat_room R st room h w c (o ++ s) z)
          (kept_inside_repeat R st kept h w) a)

    parse_two : (s : List ℕ) → length s ≤ n → Bytes (0x20 ∷ s) → RepeatPasses R st 0x20 s → Accepts p st (0x20 ∷ s)
        → Begins R st (0x20 ∷ s)
    parse_two [] short small z e = absurd (omega arith)
    parse_two (a ∷ []) short small z e = absurd (omega arith)
    parse_two (a ∷ b ∷ []) short small z e = absurd (omega arith)
    parse_two (a ∷ b ∷ c ∷ []) short small z e = absurd (omega arith)
    parse_two (a ∷ b ∷ c ∷ d ∷ s) short small z e =
        let a1 : a < 256 = small 1 in
        let b1 : b < 256 = small 2 in
        let c1 : c < 256 = small 3 in
        let d1 : d < 256 = small 4 in
        let h : ℕ = a * 256 + b in
        let w : ℕ = c * 256 + d in
        let h1 : h / 256 ≡ a = omega arith in
        let h2 : h % 256 ≡ b = omega arith in
        let w1 : w / 256 ≡ c = omega arith in
        let w2 : w % 256 ≡ d = omega arith in
        parse_body 0x20 h w (a ∷ b ∷ c ∷ d ∷ []) s (omega arith) (omega arith) (λ r. rw (z.fitting, h1, h2, w1, w2)) short small z
        z.twice z.narrow e
        (sym (scan_repeat R p st s a b c d (repeat_passes R st (a ∷ b ∷ c ∷ d ∷ s) (omega arith) by_two z)) ∙ e)

    parse_one : (s : List ℕ) → length s ≤ n → Bytes (0x22 ∷ s) → RepeatPasses R st 0x22 s → Accepts p st (0x22 ∷ s)
        → Begins R st (0x22 ∷ s)
    parse_one [] short small z e = absurd (omega arith)
    parse_one (h ∷ []) short small z e = absurd (omega arith)
    parse_one (h ∷ w ∷ s) short small z e =
        let h1 : h < 256 = small 1 in
        let w1 : w < 256 = small 2 in
        let one : (R.short && in_one_byte h w) ≡ true = rw (first_true R.short true z.known, lt-ltb h 256 h1, lt-ltb w 256 w1) in
        parse_body 0x22 h w (h ∷ w ∷ []) s (omega arith) (omega arith) (λ r. rw one) short small z z.twice z.narrow e
        (sym (scan_short R p st s h w (repeat_passes R st (h ∷ w ∷ s) (omega arith) by_one z)) ∙ e)

    parse_repeat : {c : ℕ} (o : Opens c) (s : List ℕ) → length s ≤ n → Bytes (c ∷ s) → RepeatPasses R st c s → Accepts p st (c ∷ s)
        → Begins R st (c ∷ s)
    parse_repeat by_two s short small z e = parse_two s short small z e
    parse_repeat by_one s short small z e = parse_one s short small z e

    parse_command : {c : ℕ} (s : List ℕ) → Command c → length s ≤ n → Bytes (c ∷ s) → refusal R st c s ≡ 0
        → Accepts p st (c ∷ s) → Begins R st (c ∷ s)
    parse_command s step_byte short small pass e = parse_step s short small (step_passed R st s pass) e
    parse_command s group_byte short small pass e = parse_group s short small (group_passed R st s pass) e
    parse_command s group_end_byte short small pass e = none_read st room (0x12 ∷ s) at_group_end
    parse_command s (repeat_byte o) short small pass e = parse_repeat o s short small (repeat_passed R st s o pass) e
    parse_command s repeat_end_byte short small pass e = none_read st room (0x21 ∷ s) at_repeat_end
    parse_command s (other_byte {c} h) short small pass e = absurd (omega (arith, sym (refusal_other R st s c h) ∙ pass))

  grow : (n : ℕ) → Parses n → Parses (suc n)
  grow n ih p st [] short small room kept e = none_read st room [] at_nothing
  grow n ih p st (c ∷ s) short small room kept e =
      parse_command n ih p st room kept s (command c) (omega arith) small (scan_passed R p st c s e) e

  parse : (n : ℕ) → Parses n
  parse zero p st [] short small room kept e = none_read st room [] at_nothing
  parse zero p st (c ∷ s) short small room kept e = absurd (omega arith)
  parse (suc n) p st s short small room kept e = grow n (λ p st s. parse n p st s) p st s short small room kept e

  -- What begins a whole accepted input is all of it.
  whole_read : (s : List ℕ) → Accepts 0 start s → Begins R start s → Reads R s t x
  unfolding read after
  whole_read s e q =
      let none : q.rest ≡ [] =
      shuts_nothing (0 + length (form_in R.short q.tree)) (after R q.tree start) (room_after R start q.tree q.fits.room)
      refl q.stops (stopped 0 start s q kept_start e) in
      let form : form_in R.short q.tree ≡ s = sym (append-nil (form_in R.short q.tree)) ∙ rw none at q.form in
      let z = q.fits in
      let shape : Shaped R q.tree =
      record {
        coded = z.coded;
        sound = z.sound;
        plain = z.plain;
        groups = omega arith;
        repeats = omega arith;
        total = omega arith;
      } in
      let a = accepts R q.tree shape in
      record { tree = q.tree; form = form; shape = shape; counts = cc; text = cc }

-- What the machine accepts is a tree's byte form: one of the right shape, with these counts and this text.
pub parses : (R : Rules) (s : List ℕ) → Bytes s → (t : Tally) (x : List ℕ) → read R s ≡ accepted t x → Reads R s t x
unfolding read nodes group_depth repeat_depth
parses R s small t x e =
    whole_read R t x s e (parse R t x (length s) 0 start s (omega arith) small (omega arith) kept_start e)

-- Bytes that read as a tree are accepted: with `parses`, the machine accepts exactly those.
pub reads_accepted : {R : Rules} {s : List ℕ} {t : Tally} {x : List ℕ} → Reads R s t x → read R s ≡ accepted t x
reads_accepted {R} {s} {t} {x} a = cc (accepts R a.tree a.shape, a.form, a.counts, a.text)

-- The same rules with other prices; with another width limit.
abbrev pub at_prices : Rules → Prices → Rules
at_prices R Q = record { limits = R.limits; folds = R.folds; short = R.short; allowed = R.allowed; prices = Q }

abbrev pub allowing : Rules → Allowed → Rules
allowing R A = record { limits = R.limits; folds = R.folds; short = R.short; allowed = A; prices = R.prices }

abbrev pub at_limit : Rules → ℕ → Rules
at_limit R k = allowing R (record { widest = k; marked = R.allowed.marked })

-- Neither acceptance nor the text depends on the prices.
pub repriced : {R : Rules} {s : List ℕ} {t : Tally} {x : List ℕ} (Q : Prices) (a : Reads R s t x)
    → Reads (at_prices R Q) s (tally_of Q a.tree) x
repriced Q a =
    let z = a.shape in
    record {
      tree = a.tree;
      form = a.form;
      shape = record {
        coded = z.coded;
        sound = z.sound;
        plain = z.plain;
        groups = z.groups;
        repeats = z.repeats;
        total = z.total;
      };
      counts = refl;
      text = a.text;
    }

pub same_acceptance : (R : Rules) (Q : Prices) (s : List ℕ) → Bytes s → (t : Tally) (x : List ℕ) → read R s ≡ accepted t x
    → (a : Reads R s t x) × (read (at_prices R Q) s ≡ accepted (tally_of Q a.tree) x)
same_acceptance R Q s small t x e =
    let a = parses R s small t x e in
    (a, reads_accepted (repriced Q a))

-- Sound at a limit: no width is past it; and at any limit that no width is past, under marks that leave free what was free.
pub sound_widest : (A : Allowed) (f : Forest) → Sound A f → widest_of f ≤ A.widest
unfolding widest_of
sound_widest A end z = omega arith
sound_widest A (step l f) z = sound_widest A f z
sound_widest A (group l b f) z = omega (arith, sound_widest A b z.1, sound_widest A f z.2)
sound_widest A (repeat h w b f) z = omega (arith, sound_widest A b z.1, sound_widest A f z.2)

abbrev pub LeavesFree : (A B : Allowed) → Type 0
LeavesFree A B = (b : Forest) → holds A.marked b ≡ false → holds B.marked b ≡ false

pub sound_within : (A B : Allowed) → LeavesFree A B → (f : Forest) → widest_of f ≤ B.widest → Sound A f → Sound B f
unfolding widest_of
sound_within A B free end n z = tt
sound_within A B free (step l f) n z = sound_within A B free f n z
sound_within A B free (group l b f) n z =
    (z.0, sound_within A B free b (omega arith) z.1, sound_within A B free f (omega arith) z.2)
sound_within A B free (repeat h w b f) n z =
    let r = z.0 in
    let here : Repeats B h w b =
    record { twice = r.twice; true_width = r.true_width; within = omega arith; some = r.some; unmarked = free b r.unmarked } in
    (here, sound_within A B free b (omega arith) z.1, sound_within A B free f (omega arith) z.2)

-- What is allowed of repeats decides no more than whether the tree is sound.
abbrev pub reads_allowing : {R : Rules} {s : List ℕ} {t : Tally} {x : List ℕ} (A : Allowed) (a : Reads R s t x) → Sound A a.tree
    → Reads (allowing R A) s t x
reads_allowing A a sound =
    let z = a.shape in
    record {
      tree = a.tree;
      form = a.form;
      shape = record {
        coded = z.coded;
        sound = sound;
        plain = z.plain;
        groups = z.groups;
        repeats = z.repeats;
        total = z.total;
      };
      counts = a.counts;
      text = a.text;
    }

abbrev relimited : {R : Rules} {s : List ℕ} {t : Tally} {x : List ℕ} (k : ℕ) (a : Reads R s t x) → widest_of a.tree ≤ k
    → Reads (at_limit R k) s t x
relimited {R} k a w =
    let A = (at_limit R k).allowed in
    reads_allowing A a (sound_within R.allowed A (λ b e. e) a.tree w a.shape.sound)

-- Accepted at a limit means accepted at a wider one, as a tree with no width past the limit.
pub limit_law : (R : Rules) (k : ℕ) → k ≤ R.allowed.widest → (s : List ℕ) → Bytes s → (t : Tally) (x : List ℕ)
    → (read (at_limit R k) s ≡ accepted t x) ↔ ((a : Reads R s t x) × (widest_of a.tree ≤ k))
limit_law R k narrow s small t x =
    (λ e. down (parses (at_limit R k) s small t x e), λ y. reads_accepted (relimited k y.0 y.1))
  where
    down : Reads (at_limit R k) s t x → (a : Reads R s t x) × (widest_of a.tree ≤ k)
    down a =
        let w : widest_of a.tree ≤ k = sound_widest (at_limit R k).allowed a.tree a.shape.sound in
        (relimited R.allowed.widest a (omega arith), w)
