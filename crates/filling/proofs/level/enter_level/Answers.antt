-- `filling::level::enter_level` meets its contract. The loop's invariant: what is known of the rows from sibling i on. The measure is i.
use mathlib.Core.Path.{◌≡◌, sym, refl, ap, ◌∙◌}
use Prim.Native.Nat.{◌+◌, ◌-◌}
use native.Mathlib.Omega.{arith}
use lib.ListN.{length, length-set}
use Rattle.table.specs.declared.listing.Siblings.{Siblings}
use Rattle.filling.proofs.Levels.{siblings_few, descended_none, extent_few, own_asks, row_asks, descended_more, level_filled, level_kept}
use Rattle.filling.proofs.level.enter_level.Goals as goal

pub classify-requires-clause-s_value : goal.classify-requires-clause-s_value
classify-requires-clause-s_value c =
    let l = c.list_siblings-m.ensures in (sym l.counted, omega (arith, l.counted, siblings_few c.requires.level_ready))

pub offset_bounds-scratch-m : goal.offset_bounds-scratch-m
offset_bounds-scratch-m c = omega (arith, c.list_siblings-m.ensures.counted, siblings_few c.requires.level_ready)

pub bounds-scratch-m : goal.bounds-scratch-m
bounds-scratch-m c = omega (arith, c.list_siblings-m.ensures.counted, siblings_few c.requires.level_ready)

pub offset_bounds-scratch-m-2 : goal.offset_bounds-scratch-m-2
offset_bounds-scratch-m-2 c = omega (arith, c.list_siblings-m.ensures.counted, siblings_few c.requires.level_ready)

pub bounds-scratch-m-2 : goal.bounds-scratch-m-2
bounds-scratch-m-2 c = omega (arith, c.list_siblings-m.ensures.counted, siblings_few c.requires.level_ready)

pub loop-i-init : goal.loop-i-init
loop-i-init c =
    let p = c.requires in
    let rows = c.args.scratch.now.rows in
    let long : length rows.extents ≡ 1025 = omega arith in (
      descended_none _ p.level_ready _ _ rows.extents rows.tails _ c.list_siblings-m.ensures.counted long rows.tails_ready.long,
      refl,
      omega arith,
      omega arith,
      length-set rows.extents _ _ ∙ long,
      omega arith,
      omega arith,
    )

pub grow-requires-clause-kinds_len : goal.grow-requires-clause-kinds_len
grow-requires-clause-kinds_len c =
    let few = siblings_few c.requires.level_ready in
    let counted = c.list_siblings-m.ensures.counted in
    let more = c.loop-i-test.true in
    (c.loop-i.invariant.3, omega arith, omega arith)

pub draw-g-requires-clause-m_bound : goal.draw-g-requires-clause-m_bound
draw-g-requires-clause-m_bound c =
    let few = siblings_few c.requires.level_ready in
    let counted = c.list_siblings-m.ensures.counted in
    let more = c.loop-i-test.true in
    (omega arith, omega arith)

pub draw-g-requires-clause-i_bound : goal.draw-g-requires-clause-i_bound
draw-g-requires-clause-i_bound c =
    let more = c.loop-i-test.true in
    let next : c.loop-i.i - 1 + 1 ≡ c.loop-i.i = omega (arith, more) in
    rw next (extent_few _ c.requires.level_ready (omega (arith, c.list_siblings-m.ensures.counted)) c.loop-i.invariant.0)

pub own_combined-own-requires : goal.own_combined-own-requires
own_combined-own-requires c =
    let p = c.requires in
    let l = c.list_siblings-m.ensures in
    let L = c.loop-i.invariant in
    let places = c.classify.ensures.same_places in
    let offsets = ap (λ (x : Siblings). x.offsets) L.1 ∙ places.0 in
    let numbers = ap (λ (x : Siblings). x.numbers) L.1 ∙ places.1 in
    let a =
    own_asks _ p.level_ready (c.loop-i.i - 1) (sym l.counted) (omega (arith, c.loop-i-test.true)) (omega (arith, c.loop-i.auto.i)) L.2
    (rw (sym numbers) at l.numbered) L.0 in
    record { spelled = p.level_ready.spelled; placed = rw (sym offsets) at l.placed; there = a.0; falling = a.1; numbered = a.2 }

pub enter_row-requires : goal.enter_row-requires
enter_row-requires c =
    let p = c.requires in
    let l = c.list_siblings-m.ensures in
    let L = c.loop-i.invariant in
    let numbers = ap (λ (x : Siblings). x.numbers) L.1 ∙ c.classify.ensures.same_places.1 in
    let kinds = ap (λ (x : Siblings). x.kinds) L.1 in
    let a =
    row_asks _ p.level_ready (c.loop-i.i - 1) (sym l.counted) (omega (arith, c.loop-i-test.true)) (omega (arith, c.loop-i.auto.i)) L.2
    (rw (sym numbers) at l.numbered) L.0 c.draw-g.result c.own_combined-own.ensures p.below (rw (sym kinds) at c.classify.ensures.classed)
    c.grow.ensures c.draw-g.ensures in
    record { row_held = a.0; row_ready = a.1 }

pub loop-i-preserved : goal.loop-i-preserved
loop-i-preserved c =
    let p = c.requires in
    let e = c.enter_row.ensures in
    let l = c.list_siblings-m.ensures in
    let L = c.loop-i.invariant in
    let numbers = ap (λ (x : Siblings). x.numbers) L.1 ∙ c.classify.ensures.same_places.1 in
    let kinds = ap (λ (x : Siblings). x.kinds) L.1 in
    let more =
    descended_more _ p.level_ready (c.loop-i.i - 1) (sym l.counted) (omega (arith, c.loop-i-test.true)) (omega (arith, c.loop-i.auto.i)) L.2 (rw (sym numbers) at l.numbered) L.0
    c.draw-g.result c.own_combined-own.ensures p.below (rw (sym kinds) at c.classify.ensures.classed) c.grow.ensures c.draw-g.ensures
    {costs' = c.enter_row.new.costs}
    {choices' = c.enter_row.new.choices}
    {tails' = c.enter_row.new.rows.tails}
    {stops' = c.enter_row.new.rows.stops}
    L.4 L.5 L.6 e.entered in
    (rw (e.kept.0, e.kept.1) more, L.1, L.2, L.3, rw e.kept.1 (length-set c.loop-i.scratch.rows.extents _ _ ∙ L.4), omega arith, rw e.entered.stops_are (length-set c.loop-i.scratch.rows.stops _ _ ∙ L.6))

pub returns-clause-entered : goal.returns-clause-entered
returns-clause-entered c =
    let p = c.requires in
    let done : c.loop-i.i ≡ 0 = omega (arith, c.loop-i-test.false) in
    level_filled _ p.level_ready (rw done at c.loop-i.invariant.0) p.below

pub returns-clause-kept : goal.returns-clause-kept
returns-clause-kept c =
    let done : c.loop-i.i ≡ 0 = omega (arith, c.loop-i-test.false) in
    level_kept _ c.requires.level_ready (rw done at c.loop-i.invariant.0)
