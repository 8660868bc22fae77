-- The covers that stand first in the keys taken over, marked one after another.
use mathlib.Core.Path.{◌≡◌, ◌∙◌}
use mathlib.Core.List.{List}
use Prim.Native.Nat.{ℕ, ◌+◌, ◌<◌, ◌≤◌}
use native.Mathlib.Decide.{dec_lt, ℕ_discrete}
use native.Mathlib.Omega.{arith}
use lib.ListN.{length, get_or, set, length-set}
use lib.Seq.{get_or-set_same, get_or-set_other}
use Rattle.table.specs.Keys.{covered}
use Rattle.solver.specs.declared.row.Row.{Row}
use Rattle.solver.specs.Rows.{Marked}

-- Those of fewer than d siblings are.
pub record MarkedBelow (row : Row) (keys : List ℕ) (d : ℕ) (seen : List ℕ) : Type 0 where
  pub long : length seen ≡ 1025
  pub marks : (n : ℕ) → n < d → covered (get_or keys n 0) < n → get_or seen (covered (get_or keys n 0)) 0 ≡ row.at

module _ (row : Row) (keys : List ℕ) where
  pub marked_none : (seen : List ℕ) → length seen ≡ 1025 → MarkedBelow row keys 1 seen
  marked_none seen long = record { long = long; marks = λ n l c. absurd (omega arith) }

  module _ (d : ℕ) (seen : List ℕ) (m : MarkedBelow row keys d seen) where
    -- One more, with nothing to mark, and with its cover marked.
    pub marked_kept : (c : ℕ) → c ≡ covered (get_or keys d 0) → d ≤ c → MarkedBelow row keys (d + 1) seen
    marked_kept c e l =
        record {
          long = m.long;
          marks = λ n k x. elim (dec_lt n d) [
            | yes h ↦ m.marks n h x
            | no h ↦ let q : n ≡ d = omega arith in absurd (omega (arith, rw q at x))
          ];
        }

    pub marked_set : (c : ℕ) → c ≡ covered (get_or keys d 0) → c < d → d ≤ 1024 → MarkedBelow row keys (d + 1) (set seen c row.at)
    marked_set c e l few =
        let put : (x : ℕ) → (x ≡ c → ⊥) → get_or (set seen c row.at) x 0 ≡ get_or seen x 0 = λ x n. get_or-set_other seen c x row.at 0 n in
        let here : get_or (set seen c row.at) c 0 ≡ row.at = get_or-set_same seen c row.at 0 (omega (arith, m.long)) in
        record {
          long = simp length-set m.long;
          marks = λ n k x. elim (ℕ_discrete (covered (get_or keys n 0)) c) [
            | yes q ↦ rw q here
            | no q ↦ elim (dec_lt n d) [
              | yes h ↦ put (covered (get_or keys n 0)) q ∙ m.marks n h x
              | no h ↦ let r : n ≡ d = omega arith in absurd (q (rw r (omega arith)))
            ]
          ];
        }

    pub marked_all : row.span < d → Marked row keys seen
    marked_all h =
        record {
          long = m.long;
          marks = λ wide c free n l k e. free (rw (e) at (m.marks n (omega arith) (omega arith)));
        }

-- Where the row has few keys beyond, none is.
pub marked_few : (row : Row) (keys seen : List ℕ) → length seen ≡ 1025 → row.extent ≤ row.span + 8 → Marked row keys seen
marked_few row keys seen long few = record { long = long; marks = λ wide. absurd (omega arith) }

-- Marks are about the keys taken over alone.
pub marked_still : {row : Row} {before after seen : List ℕ} → ((n : ℕ) → n ≤ row.span → get_or after n 0 ≡ get_or before n 0) → Marked row before seen
    → Marked row after seen
marked_still same m =
    record { long = m.long; marks = λ wide d free n l k e. m.marks wide d free n l k (rw (same n k) at e) }
