-- Laws of what is checked before the first command: what a head's refusal answers, and what a passed head says.
use mathlib.Core.Path.{◌≡◌, refl, sym, ◌∙◌}
use mathlib.Core.Bool.{Bool, true, false, cond}
use mathlib.Core.List.{List}
use mathlib.Core.Logic.{◌≢◌, ◌↔◌, ◌⊎◌, inl, inr, ⊎_elim}
use Prim.Native.Nat.{ℕ, zero, suc, ◌≤◌}
use native.Mathlib.Omega.{arith}
use lib.Dec.{eqb}
use borrow.Author.Tests.{ltb-false, le-ltb}
use Rattle.format.specs.Limits.{Limits}
use Rattle.format.specs.Machine.{first_of, Outcome, refused, accepted, unless, place_of}
use Rattle.format.specs.Reasons.{First, None}
use Rattle.format.specs.Head.{Head, head_checks, headed}
use Rattle.format.specs.declared.tally.Tally.{Tally}
use Rattle.format.proofs.Machine.{first_none}
use Rattle.format.proofs.Refusals.{Each, found_each, first_exactly, none_first}

-- The place is 0 whatever the number.
place_none : (n : ℕ) → place_of n 0 0 ≡ 0
place_none n = same (eqb n 3)
  where
    same : (b : Bool) → ◌≡◌ {A = ℕ} (cond b 0 0) 0
    same true = refl
    same false = refl

-- What is answered behind a check of that number.
behind : (n : ℕ) (o : Outcome) → n ≢ 0 → unless n 0 0 o ≡ refused n 0
behind zero o some = absurd (some refl)
behind (suc n) o some = rw place_none

module _ (L : Limits) (h : Head) (o : Outcome) where
  pub headed_refused : (n : ℕ) → n ≡ first_of (head_checks L h) → n ≢ 0 → headed L h o ≡ refused n 0
  unfolding headed
  headed_refused n e some = rw (← e) (behind n o some)

  pub headed_passed : 0 ≡ first_of (head_checks L h) → headed L h o ≡ o
  unfolding headed
  headed_passed e = rw (← e)

  -- What is accepted has a head that no check refuses.
  module _ (t : Tally) (x : List ℕ) (out : headed L h o ≡ accepted t x) where
    passed : 0 ≡ first_of (head_checks L h)
    passed = go (first_of (head_checks L h)) refl
      where
        go : (n : ℕ) → first_of (head_checks L h) ≡ n → 0 ≡ n
        go zero e = refl
        go (suc n) e = cc (out, headed_refused (suc n) (sym e) (omega arith))

    pub headed_accepted : o ≡ accepted t x
    headed_accepted = sym (headed_passed passed) ∙ out

    pub headed_narrow : h.limit ≤ L.width
    unfolding head_checks
    headed_narrow = ltb-false _ _ (first_none (head_checks L h) (omega arith) (sym passed)).1.1.0

  -- What holds of every head check's number, and of the numbers of what follows, holds of the refusal's number.
  pub headed_each : (Q : ℕ → Type 0) → Each Q (head_checks L h) → ((m e : ℕ) → o ≡ refused m e → Q m) → (n p : ℕ)
      → headed L h o ≡ refused n p → Q n
  headed_each Q own rest n p out = go (first_of (head_checks L h)) refl
    where
      go : (m : ℕ) → first_of (head_checks L h) ≡ m → Q n
      go zero e = rest n p (sym (headed_passed (sym e)) ∙ out)
      go (suc m) e =
          let same : suc m ≡ n = cc (out, headed_refused (suc m) (sym e) (omega arith)) in
          rw same at (found_each Q (head_checks L h) (suc m) (omega arith) e own)

  -- A head's refusal is that of the first check that applies, at place 0; where none applies, what follows answers.
  pub headed_exactly : (n e : ℕ) → n ≢ 0
      → (headed L h o ≡ refused n e) ↔ ((First (head_checks L h) n × (e ≡ 0)) ⊎ (None (head_checks L h) × (o ≡ refused n e)))
  unfolding head_checks
  headed_exactly n e some = (found (first_of (head_checks L h)) refl, ⊎_elim own rest)
    where
      found : (m : ℕ) → first_of (head_checks L h) ≡ m → headed L h o ≡ refused n e
          → (First (head_checks L h) n × (e ≡ 0)) ⊎ (None (head_checks L h) × (o ≡ refused n e))
      found zero q out = inr (first_none (head_checks L h) (omega arith) q, sym (headed_passed (sym q)) ∙ out)
      found (suc m) q out =
          let z = sym (headed_refused (suc m) (sym q) (omega arith)) ∙ out in
          let number : suc m ≡ n = cc z in
          let place : 0 ≡ e = cc z in
          inl ((first_exactly (head_checks L h) n some).0 (q ∙ number), sym place)

      own : First (head_checks L h) n × (e ≡ 0) → headed L h o ≡ refused n e
      own f = headed_refused n (sym ((first_exactly (head_checks L h) n some).1 f.0)) some ∙ rw f.1

      rest : None (head_checks L h) × (o ≡ refused n e) → headed L h o ≡ refused n e
      rest f = headed_passed (sym (none_first (head_checks L h) f.0)) ∙ f.1

-- What is accepted with a head, is with the same head under other limits of as many labels, where its limit is no wider.
pub headed_under : (L M : Limits) (h : Head) (o q : Outcome) (t : Tally) (x : List ℕ) → L.labels ≡ M.labels → h.limit ≤ M.width
    → headed L h o ≡ accepted t x → q ≡ accepted t x → headed M h q ≡ accepted t x
unfolding head_checks
headed_under L M h o q t x labels wide out e =
    let n = first_none (head_checks L h) (omega arith) (sym (passed L h o t x out)) in
    let m : None (head_checks M h) = (rw labels at n.0, (rw labels at n.1.0, (le-ltb M.width h.limit wide, n.1.1.1))) in
    headed_passed M h q (sym (none_first (head_checks M h) m)) ∙ e
