-- The bytes of the cheapest fold, by the table's choices: a fold is the span from the first place on, a span goes item by item as the
-- table says what stands first, and of a node two bytes stand, with what it holds in the rest of the output that it is lent.
use Rattle.std.proofs.Common.{arith, ℕ, List, ◌<◌, ◌≡◌, get_or}
use Rattle.table.specs.Keys.{pair_digits, count_digit, width_digit}
use Rattle.table.specs.Table.{cell}
use Rattle.writer.specs.declared.Source.{Source}
use Rattle.writer.specs.Writing.{SpanFits, follow}
use Rattle.writer.proofs.Spans.{node_group}
use Rattle.writer.proofs.Writings.{Putting, Turn, Power, putting_none, putting_all, plainly, plain_fits, putting_plain, power_body, power_next, power_wide, power_rest, power_falls, open_fits, body_fits, power_close, putting_power, fold_fits, node_bounds, step_written, inside_written, closed}
use Rattle.writer.proofs.Source.+writing.Goals as goal

-- A turn of the span's loop, and one that writes a repeat.
turn : {source : Source} {first behind to : ℕ} {before : List ℕ} {q p : ℕ} {now : List ℕ} {pair : ℕ}
    → SpanFits source first behind to → Putting source first behind to before q p now
    → behind < q → pair ≡ pair_digits (get_or source.choices.now (cell behind q) 0)
    → Turn source first behind to before q p now pair
turn f p m l = record { fits = f; putting = p; more = m; looked = l }

power : {source : Source} {first behind to : ℕ} {before : List ℕ} {q p : ℕ} {now : List ℕ} {pair : ℕ} {h w end : ℕ}
    → SpanFits source first behind to → Putting source first behind to before q p now → behind < q
    → pair ≡ pair_digits (get_or source.choices.now (cell behind q) 0) → (pair ≡ 0 → ⊥) → h ≡ count_digit pair → w ≡ width_digit pair
    → end ≡ follow source.nodes.now.nexts q w → Power source first behind to before q p now pair h w end
power f p m l o h w e = record { turn = turn f p m l; other = o; count = h; width = w; ended = e }

pub put_fold-put_span-requires : goal.put_fold-put_span-requires
put_fold-put_span-requires t c = (omega (arith, c.decreases), fold_fits c.requires)

pub put_node-bounds-self-at : goal.put_node-bounds-self-at
put_node-bounds-self-at t c = omega (arith, node_bounds c.requires)

pub put_node-overflow_add-at : goal.put_node-overflow_add-at
put_node-overflow_add-at t c = omega (arith, node_bounds c.requires)

pub put_node-bounds-self-at-2 : goal.put_node-bounds-self-at-2
put_node-bounds-self-at-2 t c = omega (arith, node_bounds c.requires)

pub put_node-returns-then-command-eq-STEP : goal.put_node-returns-then-command-eq-STEP
put_node-returns-then-command-eq-STEP t c = step_written c.requires c.put_byte.ensures c.put_byte-2.ensures c.if-command-eq-STEP.true

pub put_node-put_fold-n-requires : goal.put_node-put_fold-n-requires
put_node-put_fold-n-requires t c =
    let g = node_group c.requires.ready c.if-command-eq-STEP.false in (omega (arith, c.decreases), g.inside)

pub put_node-overflow_add-close : goal.put_node-overflow_add-close
put_node-overflow_add-close t c =
    omega (arith, inside_written c.requires c.put_byte.ensures c.put_byte-2.ensures c.if-command-eq-STEP.false c.min-lent.ensures c.put_fold-n.ensures)

pub put_node-overflow_add-result-2 : goal.put_node-overflow_add-result-2
put_node-overflow_add-result-2 t c =
    omega (arith, inside_written c.requires c.put_byte.ensures c.put_byte-2.ensures c.if-command-eq-STEP.false c.min-lent.ensures c.put_fold-n.ensures)

pub put_node-returns : goal.put_node-returns
put_node-returns t c =
    closed (inside_written c.requires c.put_byte.ensures c.put_byte-2.ensures c.if-command-eq-STEP.false c.min-lent.ensures c.put_fold-n.ensures)
    c.put_byte-3.ensures

pub put_span-loop-q-init : goal.put_span-loop-q-init
put_span-loop-q-init t c = putting_none c.args.out.now c.requires

pub put_span-put_node-p-requires : goal.put_span-put_node-p-requires
put_span-put_node-p-requires t c =
    let x = turn c.requires c.loop-q.invariant c.loop-q-test.true c.pair_at-pair.ensures in
    let y = plainly x c.if-pair-eq0.true in
    (omega (arith, c.decreases, x.more, x.putting.ahead, y.rest.counted), plain_fits x c.if-pair-eq0.true)

pub put_span-loop-q-smaller-then-pair-eq0 : goal.put_span-loop-q-smaller-then-pair-eq0
put_span-loop-q-smaller-then-pair-eq0 t c =
    let x = turn c.requires c.loop-q.invariant c.loop-q-test.true c.pair_at-pair.ensures in (plainly x c.if-pair-eq0.true).falls

pub put_span-loop-q-preserved-then-pair-eq0 : goal.put_span-loop-q-preserved-then-pair-eq0
put_span-loop-q-preserved-then-pair-eq0 t c =
    let x = turn c.requires c.loop-q.invariant c.loop-q-test.true c.pair_at-pair.ensures in
    putting_plain x c.if-pair-eq0.true _ c.put_node-p.new.out c.put_node-p.ensures

pub put_span-skip-end-requires : goal.put_span-skip-end-requires
put_span-skip-end-requires t c =
    let x = turn c.requires c.loop-q.invariant c.loop-q-test.true c.pair_at-pair.ensures in
    power_body x c.if-pair-eq0.false _ c.width_digit-w.ensures.0

pub put_span-put_open-p-requires : goal.put_span-put_open-p-requires
put_span-put_open-p-requires t c =
    let y =
    power c.requires c.loop-q.invariant c.loop-q-test.true c.pair_at-pair.ensures c.if-pair-eq0.false c.count_digit.ensures.0
    c.width_digit-w.ensures.0 c.skip-end.ensures in
    (open_fits y, omega (arith, c.count_digit.ensures.1), omega (arith, c.width_digit-w.ensures.1))

pub put_span-put_span-p-requires : goal.put_span-put_span-p-requires
put_span-put_span-p-requires t c =
    let y =
    power c.requires c.loop-q.invariant c.loop-q-test.true c.pair_at-pair.ensures c.if-pair-eq0.false c.count_digit.ensures.0
    c.width_digit-w.ensures.0 c.skip-end.ensures in
    (omega (arith, c.decreases, y.turn.more, y.turn.putting.ahead, (power_next y).ahead), body_fits y _ c.put_open-p.ensures.value)

pub put_span-overflow_add-p : goal.put_span-overflow_add-p
put_span-overflow_add-p t c =
    let y =
    power c.requires c.loop-q.invariant c.loop-q-test.true c.pair_at-pair.ensures c.if-pair-eq0.false c.count_digit.ensures.0
    c.width_digit-w.ensures.0 c.skip-end.ensures in
    omega (arith, power_close y _ c.put_open-p.ensures.value c.put_open-p.new.out _ c.put_span-p.new.out c.put_span-p.ensures)

pub put_span-overflow_sub-covered : goal.put_span-overflow_sub-covered
put_span-overflow_sub-covered t c =
    let y =
    power c.requires c.loop-q.invariant c.loop-q-test.true c.pair_at-pair.ensures c.if-pair-eq0.false c.count_digit.ensures.0
    c.width_digit-w.ensures.0 c.skip-end.ensures in
    power_wide y _ c.covered.ensures

pub put_span-skip-q-requires : goal.put_span-skip-q-requires
put_span-skip-q-requires t c =
    let y =
    power c.requires c.loop-q.invariant c.loop-q-test.true c.pair_at-pair.ensures c.if-pair-eq0.false c.count_digit.ensures.0
    c.width_digit-w.ensures.0 c.skip-end.ensures in
    power_rest y _ c.covered.ensures

pub put_span-loop-q-smaller : goal.put_span-loop-q-smaller
put_span-loop-q-smaller t c =
    let y =
    power c.requires c.loop-q.invariant c.loop-q-test.true c.pair_at-pair.ensures c.if-pair-eq0.false c.count_digit.ensures.0
    c.width_digit-w.ensures.0 c.skip-end.ensures in
    power_falls y _ c.covered.ensures _ c.skip-q.ensures

pub put_span-loop-q-preserved : goal.put_span-loop-q-preserved
put_span-loop-q-preserved t c =
    let y =
    power c.requires c.loop-q.invariant c.loop-q-test.true c.pair_at-pair.ensures c.if-pair-eq0.false c.count_digit.ensures.0
    c.width_digit-w.ensures.0 c.skip-end.ensures in
    let o = c.put_open-p.ensures in
    putting_power y _ o.value c.put_open-p.new.out _ c.put_span-p.new.out c.put_span-p.ensures o.out_after c.put_byte.new.out c.put_byte.ensures _ _
    c.covered.ensures c.skip-q.ensures

pub put_span-returns : goal.put_span-returns
put_span-returns t c = putting_all c.args.out.now c.requires c.loop-q.invariant c.loop-q-test.false
