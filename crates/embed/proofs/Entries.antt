-- The lent answer: its numbers put in front of it, and what the definitions of the answers say where it is too short and
-- where it is not. Assumes nothing.
use mathlib.Core.Path.{◌≡◌, sym, ap, subst, ◌∙◌}
use mathlib.Core.Bool.{Bool, cond}
use mathlib.Core.List.{List, ◌++◌}
use Prim.Native.Nat.{ℕ, ◌<◌, ◌≤◌}
use lib.ListN.{length, drop, set, get_or}
use lib.Seq.{sets-eq}
use borrow.Author.Tests.{lt-ltb, le-ltb}
use Rattle.embed.specs.Answers.{Answer, entry_count, status, kept, numbers, entries}

-- The stores, one after the other.
pub all_set : (a : List ℕ) (r : Answer) → entry_count ≤ length a
    → set (set (set (set (set (set (set a 0 r.refusal) 1 r.place) 2 r.one) 3 r.two) 4 r.three) 5 r.four) 6 r.five
    ≡ numbers r ++ drop entry_count a
all_set a r h = sets-eq (numbers r) a 0 h

-- An answer slice that is too short: status 255, and every lent slice as it was.
module _ (a : List ℕ) (short : length a < entry_count) where
  pub short_status : (n : ℕ) → 255 ≡ status a n
  unfolding status
  short_status n = sym (ap (λ (t : Bool). cond t 255 n) (lt-ltb (length a) entry_count short))

  pub short_kept : (b d : List ℕ) → b ≡ kept a b d
  unfolding kept
  short_kept b d = sym (ap (λ (t : Bool). cond t b d) (lt-ltb (length a) entry_count short))

  pub short_entries : (r : Answer) → a ≡ entries a r
  unfolding entries
  short_entries r = short_kept a (numbers r ++ drop entry_count a)

-- One that is long enough: the refusal, what the function inside leaves, and its answer's numbers in front.
module _ (a : List ℕ) (long : entry_count ≤ length a) where
  pub long_status : (n : ℕ) → n ≡ status a n
  unfolding status
  long_status n = sym (ap (λ (t : Bool). cond t 255 n) (le-ltb (length a) entry_count long))

  pub long_kept : (b d : List ℕ) → d ≡ kept a b d
  unfolding kept
  long_kept b d = sym (ap (λ (t : Bool). cond t b d) (le-ltb (length a) entry_count long))

  pub long_entries : (r : Answer) → numbers r ++ drop entry_count a ≡ entries a r
  unfolding entries
  long_entries r = long_kept a (numbers r ++ drop entry_count a)

  -- What a function inside answered, and the numbers that were stored of it.
  pub stored : (b : List ℕ) (r q : Answer) → r ≡ q
      → b ≡ numbers r ++ drop entry_count a
      → (r.refusal ≡ status a q.refusal) × (b ≡ entries a q)
  unfolding entries
  stored b r q e all =
      subst (λ (x : Answer). (r.refusal ≡ status a x.refusal) × (b ≡ entries a x)) e
      (long_status r.refusal, all ∙ long_kept a (numbers r ++ drop entry_count a))

-- What holds of an answer's length and cost, the second and the third value, holds of the numbers that were stored: entries 3
-- and 4.
pub of_stored : (Q : (length cost : ℕ) → Type 0) (b : List ℕ) (r : Answer) (rest : List ℕ)
    → b ≡ numbers r ++ rest → Q r.two r.three → Q (get_or b 3 0) (get_or b 4 0)
of_stored Q b r rest all = subst (λ (x : List ℕ). Q (get_or x 3 0) (get_or x 4 0)) (sym all)

-- What the search uses at every function of the boundary: src/lib.rt names it.
pub ruleset lent = (short_status, short_kept, short_entries, long_status, long_kept, long_entries)
