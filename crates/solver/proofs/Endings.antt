-- The candidates of the stretch up to the end, one after another.
use mathlib.Core.Path.{◌≡◌, refl}
use mathlib.Core.Logic.{◌⊎◌, inl, inr, ⊎_elim}
use mathlib.Core.List.{List}
use Prim.Native.Nat.{ℕ, suc, ◌+◌, ◌-◌, ◌*◌, ◌<◌, ◌≤◌}
use native.Mathlib.Nat.{mul-le-mul_right}
use native.Mathlib.Decide.{dec_lt, dec_le, ℕ_discrete}
use native.Mathlib.Omega.{arith}
use lib.ListN.{get_or}
use Rattle.table.specs.Keys.{combined_digits, covered}
use Rattle.solver.specs.declared.row.Row.{Row}
use Rattle.solver.specs.Ends.{Beyond, EndCame, by_plain, by_cover, by_repeat, Ending, EndRepeat, EndOffered, plain_end, cover_end, repeat_end}

-- The repeats of one width, of counts below h.
pub record EndUpto (row : Row) (prices tails : List ℕ) (cost d span before h k : ℕ) : Type 0 where
  pub lower : k ≤ before
  pub offered : (g : ℕ) → Beyond row d span g → g < h → k ≤ repeat_end row prices tails cost d g
  pub came : (k ≡ before) ⊎ EndRepeat row prices tails cost d span k

module _ (row : Row) (prices tails : List ℕ) (cost d span before : ℕ) where
  -- Those below the first count that covers more than is solved are not wanted.
  pub end_none : (from : ℕ) → ((g : ℕ) → 2 ≤ g → g < from → g * d ≤ row.extent) → EndUpto row prices tails cost d span before from before
  end_none from least =
      record { lower = omega arith; offered = λ g y m. absurd (omega (arith, least g y.twice m, y.far)); came = inl refl }

  module _ (h k : ℕ) (u : EndUpto row prices tails cost d span before h k) where
    pub end_more : (r : ℕ) → Beyond row d span h → r ≤ repeat_end row prices tails cost d h → r ≤ k
        → (r ≡ repeat_end row prices tails cost d h) ⊎ (r ≡ k) → EndUpto row prices tails cost d span before (h + 1) r
    end_more r beyond low less one =
        record {
          lower = omega (arith, u.lower);
          offered = λ g y b. elim (ℕ_discrete g h) [ yes e ↦ rw e low | no e ↦ omega (arith, u.offered g y (omega arith)) ];
          came = ⊎_elim (λ e. inr (record { count = h; beyond = beyond; is_key = e })) (λ e. rw e u.came) one;
        }

    -- Once the next count is out of reach, all that cover more than is solved are offered.
    pub end_all : span < (h - 1) * d → EndOffered row prices tails cost d span before k
    end_all out =
        record {
          lower = u.lower;
          offered = λ g y. elim (dec_lt g h) [
            | yes b ↦ u.offered g y b
            | no b ↦ let i : h - 1 ≤ g - 1 = omega arith in absurd (omega (arith, mul-le-mul_right d i, y.near))
          ];
          came = u.came;
        }

-- Where too few siblings match there is nothing to offer.
pub end_unlike : (row : Row) (prices tails : List ℕ) (cost d span last : ℕ) → span < d → EndOffered row prices tails cost d span last last
end_unlike row prices tails cost d span last l =
    record {
      lower = omega arith;
      offered = λ h y. let u : 1 ≤ h - 1 = omega (arith, y.twice) in absurd (omega (arith, mul-le-mul_right d u, y.near));
      came = inl refl;
    }

module _ (row : Row) (prices same tails keys : List ℕ) where
  pub ending_none : (k : ℕ) → k ≡ plain_end row tails → Ending row prices same tails keys 0 k
  ending_none k e =
      record {
        came = by_plain e;
        plain = omega arith;
        cover = λ d p l f. absurd (omega arith);
        repeats = λ d h p l f b. absurd (omega arith);
      }

  came_more : (s d k : ℕ) → s ≤ d → EndCame row prices same tails keys s k → EndCame row prices same tails keys d k
  came_more s d k l (by_plain e) = by_plain e
  came_more s d k l (by_cover c p q f e) = by_cover c p (omega arith) f e
  came_more s d k l (by_repeat c h p q f b e) = by_repeat c h p (omega arith) f b e

  -- One stretch more: what follows it, and what its repeats offer.
  pub ending_more : (s d k r q : ℕ) → suc s ≡ d → Ending row prices same tails keys s k
      → r ≤ k → (covered (get_or keys d 0) ≡ d → r ≤ cover_end row tails keys d)
      → (r ≡ k) ⊎ ((covered (get_or keys d 0) ≡ d) × (r ≡ cover_end row tails keys d))
      → (d ≤ row.limit → EndOffered row prices tails (combined_digits (get_or keys d 0)) d (get_or same d 0) r q) → (row.limit < d → q ≡ r)
      → Ending row prices same tails keys d q
  ending_more s d k r q next u less follows one offers none = by_limit (dec_le d row.limit)
    where
      came_first : EndCame row prices same tails keys d r
      came_first = ⊎_elim (λ e. rw e (came_more s d k (omega arith) u.came)) (λ e. by_cover d (omega arith) (omega arith) e.0 e.1) one

      below : q ≤ r → EndCame row prices same tails keys d q
          → ((h : ℕ) → d ≤ row.limit → Beyond row d (get_or same d 0) h → q ≤ repeat_end row prices tails (combined_digits (get_or keys d 0)) d h)
          → Ending row prices same tails keys d q
      below l came own =
          record {
            came = came;
            plain = omega (arith, u.plain);
            cover = λ c p i f. elim (ℕ_discrete c d) [
              | yes e ↦ rw e (omega (arith, follows (rw e at f)))
              | no e ↦ omega (arith, u.cover c p (omega arith) f)
            ];
            repeats = λ c h p i f b. elim (ℕ_discrete c d) [
              | yes e ↦ rw e (own h (rw e at f) (rw e at b))
              | no e ↦ omega (arith, u.repeats c h p (omega arith) f b)
            ];
          }

      by_limit : Dec (d ≤ row.limit) → Ending row prices same tails keys d q
      by_limit (yes l) =
          let o = offers l in
          below o.lower
          (⊎_elim (λ e. rw e came_first) (λ (e : EndRepeat row prices tails (combined_digits (get_or keys d 0)) d (get_or same d 0) q).
          by_repeat d e.count (omega arith) (omega arith) l e.beyond e.is_key) o.came)
          (λ h f b. o.offered h b)
      by_limit (no l) =
          let e = none (omega arith) in
          below (omega arith) (rw e came_first) (λ h f b. absurd (omega arith))
