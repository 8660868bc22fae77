-- What a row is drawn from, looked for width by width.
use mathlib.Core.Path.{◌≡◌}
use mathlib.Core.Logic.{◌⊎◌, inl, inr}
use mathlib.Core.List.{List}
use Prim.Native.Nat.{ℕ, ◌+◌, ◌<◌, ◌≤◌}
use native.Mathlib.Decide.{dec_lt, ℕ_discrete}
use native.Mathlib.Omega.{arith}
use lib.ListN.{get_or}
use Rattle.solver.specs.declared.matches.Source.{Source}
use Rattle.solver.specs.Rows.{Wider, Drawn}

-- The widths below w, of n, are looked at.
pub record Sought (extents : List ℕ) (i n w : ℕ) (same : List ℕ) (g : Source) : Type 0 where
  pub some : 0 < g.shift
  pub near : g.shift ≤ n
  pub spans : g.span ≤ get_or same g.shift 0
  pub entered : g.span ≤ get_or extents (i + g.shift) 0
  pub far : (v d : ℕ) → 0 < v → v < w → d ≤ get_or same v 0 → d ≤ v → d ≤ g.extent

pub sought_none : (extents : List ℕ) (i n e : ℕ) (same : List ℕ) → 0 < n → Sought extents i n 1 same (record { extent = e; shift = 1; span = 0 })
sought_none extents i n e same p =
    record { some = omega arith; near = omega arith; spans = omega arith; entered = omega arith; far = λ v d a b. absurd (omega arith) }

module _ (extents : List ℕ) (i n w : ℕ) (same : List ℕ) (g : Source) (s : Sought extents i n w same g) where
  -- Those that match for no more than is known need not be.
  pub sought_past : (r low : ℕ) → low ≤ g.extent → ((v : ℕ) → w ≤ v → v < r → get_or same v 0 ≤ low) → Sought extents i n r same g
  sought_past r low l few =
      record {
        some = s.some;
        near = s.near;
        spans = s.spans;
        entered = s.entered;
        far = λ v d a b c f. elim (dec_lt v w) [ yes q ↦ s.far v d a q c f | no q ↦ omega (arith, few v (omega arith) b) ];
      }

  pub sought_more : (k : ℕ) (r : Source) → 0 < w → w ≤ n → k ≡ get_or same w 0 → Wider w k (get_or extents (i + w) 0) g r → Sought extents i n (w + 1) same r
  sought_more k r p h e x = by_source x.source
    where
      far : (v d : ℕ) → 0 < v → v < w + 1 → d ≤ get_or same v 0 → d ≤ v → d ≤ r.extent
      far v d a b c f = elim (ℕ_discrete v w) [
        | yes q ↦ x.asked d (omega (arith, rw q at c)) (omega arith)
        | no q ↦ omega (arith, s.far v d a (omega arith) c f, x.more)
      ]

      by_source : ((r.shift ≡ g.shift) × (r.span ≡ g.span)) ⊎ ((r.shift ≡ w) × (r.span ≤ k) × (r.span ≤ get_or extents (i + w) 0))
          → Sought extents i n (w + 1) same r
      by_source (inl q) =
          record {
            some = omega (arith, s.some);
            near = omega (arith, s.near);
            spans = rw (q.0, q.1) s.spans;
            entered = rw (q.0, q.1) s.entered;
            far = far;
          }
      by_source (inr q) =
          record { some = omega arith; near = omega arith; spans = rw q.0 (omega arith); entered = rw q.0 q.2; far = far }

  -- All widths are; the row is solved no further than its ends are.
  pub sought_drawn : (m e t : ℕ) → i + n ≡ m → n ≤ w → e ≤ g.extent → e ≤ get_or extents (i + 1) 0 + 1
      → ((c : ℕ) → c ≤ g.extent → c ≤ get_or extents (i + 1) 0 + 1 → c ≤ e) → t ≤ g.span → t ≤ e
      → Drawn extents i m same (record { extent = e; shift = g.shift; span = t })
  sought_drawn m e t last all low close most less under =
      record {
        some = s.some;
        near = omega (arith, s.near);
        spans = omega (arith, s.spans);
        entered = omega (arith, s.entered);
        under = under;
        close = close;
        far = λ v d a b c f h. most d (s.far v d a (omega arith) c f) h;
      }
