-- The matches grown by one sibling.
use mathlib.Core.Path.{◌≡◌, refl, ◌∙◌}
use mathlib.Core.List.{List}
use Prim.Native.Nat.{ℕ, ◌+◌, ◌<◌, ◌≤◌}
use native.Mathlib.Decide.{dec_lt, ℕ_discrete}
use native.Mathlib.Omega.{arith}
use lib.ListN.{length, get_or, set, length-set}
use lib.Seq.{get_or-set_same, get_or-set_other}
use Rattle.format.specs.Forest.{Forest, Allowed, siblings}
use Rattle.optimum.specs.Cheapest.{Run, back}
use Rattle.optimum.proofs.Cut.{siblings_back}
use Rattle.table.specs.Listing.{Classed}
use Rattle.optimum.specs.Matches.{Matched}
use Rattle.optimum.proofs.Matches.{further, matched_more, matched_none}
use Rattle.solver.specs.Rows.{Matches, Growing}
use Rattle.table.proofs.Listings.{entry_more, equal_kinds, kinds_equal}

-- The matches below width w are grown, the others as they were.
pub record GrownBelow (kinds : List ℕ) (i w : ℕ) (before after : List ℕ) : Type 0 where
  pub long : length after ≡ 1025
  pub low : (v : ℕ) → 0 < v → v < w → get_or after v 0 + i ≤ 1024
  pub more : (v : ℕ) → 0 < v → v < w → get_or kinds i 0 ≡ get_or kinds (i + v) 0 → get_or after v 0 ≡ get_or before v 0 + 1
  pub none : (v : ℕ) → 0 < v → v < w → (get_or kinds i 0 ≡ get_or kinds (i + v) 0 → ⊥) → get_or after v 0 ≡ 0
  pub later : (v : ℕ) → w ≤ v → get_or after v 0 ≡ get_or before v 0

pub grown_none : (kinds : List ℕ) (i : ℕ) (before : List ℕ) → length before ≡ 1025 → GrownBelow kinds i 1 before before
grown_none kinds i before long =
    record {
      long = long;
      low = λ v h l. absurd (omega arith);
      more = λ v h l e. absurd (omega arith);
      none = λ v h l e. absurd (omega arith);
      later = λ v h. refl;
    }

module _ (kinds : List ℕ) (i w : ℕ) (before after : List ℕ) (g : GrownBelow kinds i w before after) (short : w < 1025) where
  -- One width more.
  pub grown_more : (x : ℕ) → get_or before w 0 + i < 1024 → (get_or kinds i 0 ≡ get_or kinds (i + w) 0 → x ≡ get_or after w 0 + 1)
      → ((get_or kinds i 0 ≡ get_or kinds (i + w) 0 → ⊥) → x ≡ 0) → GrownBelow kinds i (w + 1) before (set after w x)
  grown_more x h p q =
      let same = g.later w (omega arith) in
      let few : x + i ≤ 1024 =
      elim (ℕ_discrete (get_or kinds i 0) (get_or kinds (i + w) 0)) [ yes e ↦ omega (arith, p e) | no e ↦ omega (arith, q e) ] in
      record {
        long = simp length-set g.long;
        low = λ v a l. entry_more (λ u y. 0 < u → y + i ≤ 1024) after w x (omega (arith, g.long)) (λ u k b. g.low u b k) (λ b. few) v l a;
        more = λ v a l. entry_more (λ u y. 0 < u → get_or kinds i 0 ≡ get_or kinds (i + u) 0 → y ≡ get_or before u 0 + 1) after w x (omega (arith, g.long))
            (λ u k b. g.more u b k) (λ b e. omega (arith, p e)) v l a;
        none = λ v a l. entry_more (λ u y. 0 < u → (get_or kinds i 0 ≡ get_or kinds (i + u) 0 → ⊥) → y ≡ 0) after w x (omega (arith, g.long))
            (λ u k b. g.none u b k) (λ b. q) v l a;
        later = λ v l. get_or-set_other after w v x 0 (λ e. omega arith) ∙ g.later v (omega arith);
      }

  -- At the last width nothing is left to match.
  pub grown_all : (m : ℕ) → i < m → m ≤ 1024 → i + w ≡ m → Growing kinds i m before (set after w 0)
  grown_all m some few last =
      record {
        long = simp length-set g.long;
        low = λ v a l. entry_more (λ u y. 0 < u → y + i ≤ 1024) after w 0 (omega (arith, g.long)) (λ u k b. g.low u b k) (λ b. omega arith) v (omega arith) a;
        matches = matches;
      }
    where
      matches : (A : Allowed) (t : Forest) → Run A t → siblings t ≡ m → Classed A.marked t m kinds
          → Matches A.marked (back (i + 1) t) before → Matches A.marked (back i t) (set after w 0)
      matches A t r n c b = record { matched = λ v h l. by_place v h l (dec_lt v w) }
        where
          by_place : (v : ℕ) → 0 < v → v ≤ siblings (back i t) → Dec (v < w) → Matched A.marked (back i t) v (get_or (set after w 0) v 0)
          by_place v h l (yes k) = rw (get_or-set_other after w v 0 0 (λ e. omega arith)) (by_kind (ℕ_discrete (get_or kinds i 0) (get_or kinds (i + v) 0)))
            where
              by_kind : Dec (get_or kinds i 0 ≡ get_or kinds (i + v) 0) → Matched A.marked (back i t) v (get_or after v 0)
              by_kind (yes e) =
                  rw (g.more v h k e)
                  (matched_more A t r i (omega arith) v (get_or before v 0)
                  (equal_kinds A.marked t i (i + v) _ _ (λ q. omega arith) (c.class i some) (c.class (i + v) (omega arith)) e)
                  (b.matched v h (omega (arith, further A t r i (omega arith), siblings_back i t r.plain (omega arith)))))
              by_kind (no e) =
                  rw (g.none v h k e)
                  (matched_none A t r i (omega arith) v (omega arith)
                  (λ a q. e (kinds_equal A.marked t i (i + v) _ _ (c.class i some) (c.class (i + v) (omega arith)) q)))
          by_place v h l (no k) =
              let e : v ≡ w = omega (arith, siblings_back i t r.plain (omega arith)) in
              rw (e, get_or-set_same after w 0 0 (omega (arith, g.long)))
              (matched_none A t r i (omega arith) w (omega arith) (λ a q. omega arith))
