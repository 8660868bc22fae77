-- WHICH ANSWERS CHANGED when 10 came before 9. Readings by the former order and by this one are the same, except where the former
-- says 9 at a `21` at which 10 holds too: there this one says 10 at the same place.
use mathlib.Core.Path.{◌≡◌, refl, sym, ap, ◌∙◌}
use mathlib.Core.Bool.{Bool, true, false, true≢false, cond, or-false, ◌&&◌}
use mathlib.Core.List.{List, [], ◌∷◌, ◌++◌}
use mathlib.Core.Logic.{◌≢◌, ◌↔◌, ◌⊎◌, inl, inr, ⊎_elim}
use Prim.Native.Nat.{ℕ, zero, suc, ◌<◌}
use native.Mathlib.Decide.{dec_le}
use native.Mathlib.Omega.{arith}
use lib.Dec.{eqb, ltb}
use lib.ListN.{length, get_or, drop, take, get_or-eq_default}
use lib.Seq.{drop-cons, drop-length}
use borrow.Author.Tests.{eqb-true, ne_eqb}
use Rattle.format.specs.Machine.{Rules, State, is_node, node_total, none, Check, ◌when◌, first_of, checks, refusal, scan_by, read, place_of, at_end, Outcome, refused, accepted}
use Rattle.format.specs.Limits.{limits, Tariff, priced, allowed}
use Rattle.format.specs.Reasons.{holds_check, Reached, Because, at_command, left_open}
use Rattle.format.specs.Head.{Head, head_checks, headed, marks_in_order, full_head}
use Rattle.format.specs.Readings.{fold_rules, fold_numbers, as_fold_reading, outcome_by, fold_outcome, reading_by, fold_reading}
use Rattle.format.specs.FormerOrder.{former_checks, former_refusal, former_read, former_outcome, former_reading, NineAndTen}
use Rattle.format.specs.declared.tally.Tally.{Tally}
use Rattle.format.proofs.Machine.{first_none, refusal_repeat_end}
use Rattle.format.proofs.Refusals.{said_holds, none_holds, Each, found_each, place, open_end, reached_by, refused_exactly, refused_some, accepted_exactly}
use Rattle.format.proofs.Heads.{headed_refused, headed_passed}
use Rattle.format.proofs.Examples.{sized, repeating, one_step, a_refusal}

-- An answer that changed, as it was; `order` in Examples has it as it is.
pub was_nine : former_reading (repeating 1025 2 one_step) 1024 (sized 256 256) ≡ a_refusal 9 7
unfolding former_reading marks_in_order
was_nine = refl

-- Two refusals that are the same have one number.
one_number : {m n p q : ℕ} → refused m p ≡ refused n q → m ≡ n
one_number e = cc e

-- Two answers are the same, or N says how they differ: so where N does not, they are the same, and they differ exactly where it does.
alike_else : {A N : Type 0} {x y : A} → (x ≡ y) ⊎ N → ¬ N → x ≡ y
alike_else (inl e) none = e
alike_else (inr n) none = absurd (none n)

differ_exactly : {A N : Type 0} {x y : A} → (x ≡ y) ⊎ N → (N → x ≢ y) → (x ≢ y) ↔ N
differ_exactly (inl e) apart = (λ other. absurd (other e), apart)
differ_exactly (inr n) apart = (λ other. n, apart)

-- Checks that end in 19, 10 and 9: what they say, by what they say where 9 comes first.
last_three : (rs : List Check) → Each (λ n. n ≢ 9) rs → (other ten nine : Bool) → (nine ≡ true → other ≡ false)
    → first_of (rs ++ 19 when other ∷ 10 when ten ∷ 9 when nine ∷ [])
    ≡ (let n = first_of (rs ++ 9 when nine ∷ 19 when other ∷ 10 when ten ∷ []) in cond (eqb n 9 && ten) 10 n)
last_three (m when true ∷ rs) q other ten nine apart = rw (ne_eqb m 9 q.0)
last_three (m when false ∷ rs) q other ten nine apart = last_three rs q.1 other ten nine apart
last_three [] q false false false apart = refl
last_three [] q false false true apart = refl
last_three [] q false true false apart = refl
last_three [] q false true true apart = refl
last_three [] q true ten false apart = refl
last_three [] q true ten true apart = cc (apart refl)

both_left : (a b : Bool) → a && b ≡ true → a ≡ true
both_left true b e = refl
both_left false b e = e

closing : (c : ℕ) (b : Bool) → eqb c 0x21 && b ≡ true → c ≡ 0x21
closing c b e = eqb-true c 0x21 (both_left (eqb c 0x21) b e)

-- 9 is for a `21` and 19 for a node.
no_node : (c : ℕ) (a b : Bool) → eqb c 0x21 && a ≡ true → is_node c && b ≡ false
no_node c a b e = rw (closing c a e)

module _ (R : Rules) (st : State) (c : ℕ) (rest : List ℕ) where
  ten_first : refusal R st c rest
      ≡ cond (eqb (former_refusal R st c rest) 9 && holds_check 10 (checks R st c rest)) 10 (former_refusal R st c rest)
  unfolding refusal former_refusal holds_check
  ten_first =
      let full : Bool = ltb R.limits.nodes (node_total c st.opens st.tally.nodes) in
      rw or-false (last_three (take 10 (checks R st c rest)) (omega arith) _ full _ (no_node c _ _))

  -- What was said at a command is what is said; or it was 9, and is 10.
  abbrev Renamed : Type 0
  Renamed = (former_refusal R st c rest ≡ refusal R st c rest) ⊎ ((former_refusal R st c rest ≡ 9) × (refusal R st c rest ≡ 10))

  renamed : Renamed
  renamed = go (eqb (former_refusal R st c rest) 9) (holds_check 10 (checks R st c rest)) refl refl
    where
      go : (nine ten : Bool) → eqb (former_refusal R st c rest) 9 ≡ nine → holds_check 10 (checks R st c rest) ≡ ten → Renamed
      go true true e f = inr (eqb-true _ 9 e, ten_first ∙ rw (e, f))
      go true false e f = inl (sym (ten_first ∙ rw (e, f)))
      go false ten e f = inl (sym (ten_first ∙ rw e))

  -- The same commands are passed.
  passed_before : refusal R st c rest ≡ 0 → former_refusal R st c rest ≡ 0
  passed_before e = alike_else renamed (λ m. absurd (omega (arith, e, m.1))) ∙ e

  nine_closes : former_refusal R st c rest ≡ 9 → c ≡ 0x21
  unfolding former_refusal holds_check
  nine_closes e = closing c _ (rw or-false at (said_holds 9 (omega arith) (former_checks R st c rest) e))

  ten_holds : refusal R st c rest ≡ 10 → holds_check 10 (checks R st c rest) ≡ true
  unfolding refusal
  ten_holds e = said_holds 10 (omega arith) (checks R st c rest) e

  passed_holds_none : former_refusal R st c rest ≡ 0 → holds_check 10 (checks R st c rest) ≡ false
  unfolding refusal
  passed_holds_none e = none_holds 10 (checks R st c rest) (first_none (checks R st c rest) (omega arith) (ten_first ∙ rw e))

module _ (R : Rules) (s : List ℕ) where
  -- The former reading, from a point that is reached: at the end, and at a command that it refuses.
  former_on : {p : ℕ} {st : State} → Reached R s p st → former_read R s ≡ scan_by (former_refusal R) R.prices p 0 st (drop p s)
  unfolding former_read
  former_on r = (reached_by R s (former_refusal R) (passed_before R) r).1

  former_end : {st : State} → Reached R s (length s) st → former_read R s ≡ at_end (length s) st.opens st
  unfolding scan_by
  former_end r = former_on r ∙ rw drop-length

  former_at : (p : ℕ) (st : State) → Reached R s p st → p < length s → (n : ℕ)
      → former_refusal R st (get_or s p 0) (drop (suc p) s) ≡ suc n → former_read R s ≡ refused (suc n) (place_of (suc n) p (length s))
  unfolding scan_by
  former_at p st r lt n e = former_on r ∙ rw (drop-cons s p 0 lt, e, place R s p lt)

  abbrev Both : Type 0
  Both = (p : ℕ) × NineAndTen R s p

  moves : (read R s ≡ former_read R s) ⊎ Both
  moves = go (read R s) refl
    where
      go : (o : Outcome) → read R s ≡ o → (read R s ≡ former_read R s) ⊎ Both
      go (accepted t x) e =
          let f = (accepted_exactly R s t x).0 e in
          inl (e ∙ sym (former_end f.reached ∙ rw (f.closed, f.counts, f.unrolled)))
      go (refused zero q) e = absurd (refused_some R s 0 q e refl)
      go (refused (suc n) q) e = because ((refused_exactly R s (suc n) q).0 e)
        where
          because : Because R s (suc n) q → (read R s ≡ former_read R s) ⊎ Both
          because (left_open st r some m w) =
              inl (e ∙ sym (former_end r ∙ open_end (length s) st.opens st some ∙ rw (m, w)))
          because (at_command p st r lt f some w) = by_number (renamed R st (get_or s p 0) (drop (suc p) s))
            where
              by_number : Renamed R st (get_or s p 0) (drop (suc p) s) → (read R s ≡ former_read R s) ⊎ Both
              by_number (inl g) = inl (e ∙ sym (former_at p st r lt n (g ∙ f) ∙ ap (refused (suc n)) (sym w)))
              by_number (inr m) =
                  let c = nine_closes R st (get_or s p 0) (drop (suc p) s) m.0 in
                  let ten = ten_holds R st (get_or s p 0) (drop (suc p) s) m.1 in
                  inr (p, record { said = former_at p st r lt 8 m.0; state = st; reached = r; close = c; ten = rw c at ten })

  -- WHERE THE FORMER READING SAYS 9 AT A `21` AT WHICH 10 HOLDS TOO, 10 IS SAID AT THE SAME PLACE.
  module _ (p : ℕ) (both : NineAndTen R s p) where
    abbrev st : State
    st = both.state

    abbrev rest : List ℕ
    rest = drop (suc p) s

    there : p < length s
    there = go (dec_le (suc p) (length s))
      where
        go : Dec (p < length s) → p < length s
        go (yes lt) = lt
        go (no h) = absurd (omega (arith, both.close, get_or-eq_default s 0 {n = p} (omega arith)))

    nine_there : former_refusal R st 0x21 rest ≡ 9
    nine_there = go (former_refusal R st 0x21 rest) refl
      where
        go : (n : ℕ) → former_refusal R st 0x21 rest ≡ n → n ≡ 9
        go zero e = absurd (true≢false (sym both.ten ∙ passed_holds_none R st 0x21 rest e))
        go (suc n) e = cc (both.said, former_at p st both.reached there n (rw both.close e))

    pub ten_named : read R s ≡ refused 10 p
    ten_named =
        (refused_exactly R s 10 p).1 (at_command p st both.reached there (rw both.close (ten_first R st 0x21 rest ∙ rw (nine_there, both.ten))) (omega arith) refl)

  -- OTHERWISE NOTHING MOVED: what is read is what was read.
  pub else_as_before : ((p : ℕ) → ¬ NineAndTen R s p) → read R s ≡ former_read R s
  else_as_before none = alike_else moves (λ m. none m.0 m.1)

  -- EXACTLY THOSE CHANGE.
  pub changed_exactly : (read R s ≢ former_read R s) ↔ ((p : ℕ) × NineAndTen R s p)
  changed_exactly =
      differ_exactly moves (λ m same. absurd (omega (arith, one_number (sym (ten_named m.0 m.1) ∙ same ∙ m.1.said))))

  -- So what is accepted is what was accepted, at the same counts.
  pub accepted_as_before : (t : Tally) (x : List ℕ) → (read R s ≡ accepted t x) ↔ (former_read R s ≡ accepted t x)
  accepted_as_before t x =
      (λ a. sym (else_as_before (λ p both. apart (sym a ∙ ten_named p both))) ∙ a, λ a. else_as_before (λ p both. apart (sym a ∙ both.said)) ∙ a)
    where
      apart : {n p : ℕ} → ¬ (accepted t x ≡ refused n p)
      apart e = let f : true ≡ false = cc e in true≢false f

  -- And a run reads as it did: 2 comes before both.
  pub runs_as_before : R.folds ≡ false → read R s ≡ former_read R s
  runs_as_before run = else_as_before two
    where
      two : (p : ℕ) → ¬ NineAndTen R s p
      two p both =
          let rest = drop (suc p) s in
          let says : refusal R both.state 0x21 rest ≡ 2 = refusal_repeat_end R both.state rest ∙ rw run in
          let e = (refused_exactly R s 2 p).1 (at_command p both.state both.reached (there p both) (rw both.close says) (omega arith) refl) in
          omega (arith, one_number (sym e ∙ ten_named p both))

-- AT AN ENTRY POINT with a head, whose own refusals come first and are not 9.
module _ (h : Head) (T : Tariff) (s : List ℕ) where
  abbrev rules : Rules
  rules = fold_rules (allowed h.limit T.marks) (priced T)

  abbrev head : ℕ
  head = first_of (head_checks limits h)

  head_passed : (p : ℕ) → former_outcome h T s ≡ refused 9 p → 0 ≡ head
  unfolding former_outcome head_checks
  head_passed p said = go head refl
    where
      go : (n : ℕ) → head ≡ n → 0 ≡ n
      go zero e = refl
      go (suc n) e =
          let same : 9 ≡ suc n = one_number (sym said ∙ headed_refused limits h _ (suc n) (sym e) (omega arith)) in
          absurd (found_each (λ m. m ≢ 9) (head_checks limits h) (suc n) (omega arith) e (omega arith) (sym same))

  pub outcome_ten : (p : ℕ) → former_outcome h T s ≡ refused 9 p → NineAndTen rules s p → fold_outcome h T s ≡ refused 10 p
  unfolding outcome_by
  outcome_ten p said both = headed_passed limits h (read rules s) (head_passed p said) ∙ ten_named rules s p both

  abbrev Nine : Type 0
  Nine = (p : ℕ) × (former_outcome h T s ≡ refused 9 p) × NineAndTen rules s p

  outcome_moves : (fold_outcome h T s ≡ former_outcome h T s) ⊎ Nine
  unfolding outcome_by former_outcome
  outcome_moves = go head refl (moves rules s)
    where
      go : (n : ℕ) → head ≡ n → (read rules s ≡ former_read rules s) ⊎ Both rules s → (fold_outcome h T s ≡ former_outcome h T s) ⊎ Nine
      go n e (inl same) = inl (ap (headed limits h) same)
      go zero e (inr m) = inr (m.0, headed_passed limits h (former_read rules s) (sym e) ∙ m.1.said, m.1)
      go (suc n) e (inr m) = inl (refuses (read rules s) ∙ sym (refuses (former_read rules s)))
        where
          refuses : (o : Outcome) → headed limits h o ≡ refused (suc n) 0
          refuses o = headed_refused limits h o (suc n) (sym e) (omega arith)

  pub outcome_exactly : (fold_outcome h T s ≢ former_outcome h T s)
      ↔ ((p : ℕ) × (former_outcome h T s ≡ refused 9 p) × NineAndTen rules s p)
  outcome_exactly =
      differ_exactly outcome_moves (λ m same. absurd (omega (arith, one_number (sym (outcome_ten m.0 m.1 m.2) ∙ same ∙ m.1))))

-- A refusal is read off the fold reader's answer.
said_nine : (o : Outcome) (p : ℕ) → as_fold_reading o ≡ fold_numbers 9 p none → o ≡ refused 9 p
said_nine (refused n q) p e = λ i. refused (e i).refusal (e i).place
said_nine (accepted t x) p e = absurd (omega (arith, ap (λ r. r.refusal) e))

-- THE FOLD READER'S ANSWER, for any bytes, limit and costs: where it was 9 at a `21` at which 10 holds too, it is 10 with the same
-- place; otherwise it is what it was; and it is another exactly there.
module _ (s : List ℕ) (k : ℕ) (T : Tariff) where
  abbrev WasNine : ℕ → Type 0
  WasNine p = (former_reading s k T ≡ fold_numbers 9 p none) × NineAndTen (fold_rules (allowed k T.marks) (priced T)) s p

  pub reading_ten : (p : ℕ) → WasNine p → fold_reading s k T ≡ fold_numbers 10 p none
  unfolding reading_by former_reading
  reading_ten p m = ap as_fold_reading (outcome_ten (full_head T k) T s p (said_nine _ p m.0) m.1)

  reading_moves : (fold_reading s k T ≡ former_reading s k T) ⊎ ((p : ℕ) × WasNine p)
  unfolding reading_by former_reading
  reading_moves =
      ⊎_elim (λ e. inl (ap as_fold_reading e)) (λ m. inr (m.0, (ap as_fold_reading m.1, m.2))) (outcome_moves (full_head T k) T s)

  pub reading_as_before : ((p : ℕ) → ¬ WasNine p) → fold_reading s k T ≡ former_reading s k T
  reading_as_before none = alike_else reading_moves (λ m. none m.0 m.1)

  pub reading_changed_exactly : (fold_reading s k T ≢ former_reading s k T) ↔ ((p : ℕ) × WasNine p)
  reading_changed_exactly =
      differ_exactly reading_moves (λ m same. absurd (omega (arith, ap (λ r. r.refusal) (sym (reading_ten m.0 m.1) ∙ same ∙ m.1.0))))
