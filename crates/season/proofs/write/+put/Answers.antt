-- The bytes of the cheapest fold, by the blocks' pairs.
use Rattle.std.proofs.Common.{arith}
use Rattle.season.proofs.Writings.{putting_none, putting_all, next, next_fits, putting_more, item_label, item_body, repeat_size, repeat_written}
use Rattle.season.proofs.write.+put.Goals as goal

pub put_item-bounds-run-i : goal.put_item-bounds-run-i
put_item-bounds-run-i t c = omega (arith, item_label c.requires.ready)

pub put_item-put_open-inside-requires : goal.put_item-put_open-inside-requires
put_item-put_open-inside-requires t c =
    let x = c.requires in
    let b = item_body x.ready c.if-pair-eq0.false in
    (omega (arith, x.fits, repeat_size x.ready c.if-pair-eq0.false), b.count, omega arith)

pub put_item-put_steps-p-requires : goal.put_item-put_steps-p-requires
put_item-put_steps-p-requires t c =
    let x = c.requires in
    let b = item_body x.ready c.if-pair-eq0.false in
    (omega (arith, c.decreases), record { ready = b.ready; fits = omega (arith, x.fits, repeat_size x.ready c.if-pair-eq0.false, c.put_open-inside.ensures.value) })

pub put_item-overflow_add-result-2 : goal.put_item-overflow_add-result-2
put_item-overflow_add-result-2 t c =
    let x = c.requires in
    let b = item_body x.ready c.if-pair-eq0.false in
    omega (arith, x.fits, repeat_size x.ready c.if-pair-eq0.false, c.put_open-inside.ensures.value, c.put_steps-p.ensures.is_end b.ready)

pub put_item-returns : goal.put_item-returns
put_item-returns t c =
    repeat_written c.args.out.now c.put_open-inside.new.out c.put_steps-p.new.out _ c.put_open-inside.result c.put_steps-p.result
    c.if-pair-eq0.false c.put_open-inside.ensures.value c.put_open-inside.ensures.out_after c.put_steps-p.ensures c.put_byte-2.ensures

pub put_steps-loop-i-init : goal.put_steps-loop-i-init
put_steps-loop-i-init t c = putting_none c.args.out.now c.requires

pub put_steps-put_item-p-requires : goal.put_steps-put_item-p-requires
put_steps-put_item-p-requires t c =
    let x = c.loop-i.invariant in
    let n = next c.args.out.now c.requires x c.loop-i-test.true c.key_at-pair.ensures.0 c.slot.ensures c.left_slot.ensures in (
      omega (arith, n.half, n.covered.1, x.ahead),
      next_fits c.args.out.now c.requires x c.loop-i-test.true c.key_at-pair.ensures.0 c.slot.ensures c.left_slot.ensures,
    )

pub put_steps-covers-i-requires : goal.put_steps-covers-i-requires
put_steps-covers-i-requires t c =
    (next c.args.out.now c.requires c.loop-i.invariant c.loop-i-test.true c.key_at-pair.ensures.0 c.slot.ensures c.left_slot.ensures).small

pub put_steps-loop-i-smaller : goal.put_steps-loop-i-smaller
put_steps-loop-i-smaller t c =
    let n = next c.args.out.now c.requires c.loop-i.invariant c.loop-i-test.true c.key_at-pair.ensures.0 c.slot.ensures c.left_slot.ensures in
    omega (arith, c.covers-i.ensures, n.covered.0, n.covered.1)

pub put_steps-loop-i-preserved : goal.put_steps-loop-i-preserved
put_steps-loop-i-preserved t c =
    rw c.covers-i.ensures
    (putting_more c.args.out.now c.requires c.loop-i.invariant c.loop-i-test.true c.key_at-pair.ensures.0 c.slot.ensures c.left_slot.ensures
    c.put_item-p.result c.put_item-p.new.out c.put_item-p.ensures)

pub put_steps-returns : goal.put_steps-returns
put_steps-returns t c = putting_all c.args.out.now c.requires c.loop-i.invariant c.loop-i-test.false
