-- `table::triangle::store_row` meets its contract. The loop's invariant: the stretches of fewer than d siblings are stored.
use mathlib.Core.Path.{◌≡◌}
use mathlib.Core.List.{List}
use Prim.Native.Nat.{ℕ, ◌+◌, ◌-◌, ◌<◌, ◌≤◌}
use native.Mathlib.Omega.{arith}
use lib.ListN.{length, get_or, set}
use Rattle.table.specs.Keys.{cost_digit, choice_digits}
use Rattle.table.specs.Table.{cell, Falling, Stored}
use Rattle.table.proofs.Tables.{stored_more}
use Rattle.table.proofs.triangle.store_row.Goals as goal

-- One more entry, of either table.
more : (digit : ℕ → ℕ) (numbers keys : List ℕ) (i n d to at v : ℕ) (before after : List ℕ) → 0 < d → d ≤ n → to ≡ d
    → Falling numbers (i + n) (length before) → at ≡ cell (get_or numbers (i + d) 0) (get_or numbers i 0) → v ≡ digit (get_or keys d 0)
    → Stored numbers i (d - 1) (λ e. digit (get_or keys e 0)) before after → Stored numbers i to (λ e. digit (get_or keys e 0)) before (set after at v)
more digit numbers keys i n d to at v before after some few t falls e f s =
    rw (t, e, f) (stored_more numbers i (d - 1) d (λ e. digit (get_or keys e 0)) before after (i + n) (omega arith) (omega arith) falls s)

pub loop-d-preserved : goal.loop-d-preserved
loop-d-preserved c =
    let L = c.loop-d in (
      omega arith,
      more cost_digit _ _ _ c.args.n L.d _ _ _ _ _ (omega arith) (omega arith) (omega arith) c.requires.falling.0 c.entry-at.ensures c.cost_digit.ensures L.invariant.1,
      more choice_digits _ _ _ c.args.n L.d _ _ _ _ _ (omega arith) (omega arith) (omega arith) c.requires.falling.1 c.entry-at.ensures c.choice_digits.ensures.0 L.invariant.2,
    )
