-- `find` meets its contract: the fold's refusal, 17, 16, or the node that the way down from the index comes to.
use Rattle.std.proofs.Common.{refl, sym, ◌∙◌, arith}
use Rattle.std.proofs.lemmas.Result.{err_from_is_err_and}
use Rattle.index.proofs.Answers.{answer_right, find_refused, other_index, past_the_total, some_entry, entry_offset, node_in, label_within, node_found}
use Rattle.index.proofs.find.Goals as goal

pub returns-in_err-read_alone : goal.returns-in_err-read_alone
returns-in_err-read_alone c =
    let p = err_from_is_err_and c.from_residual.result c.from_residual.ensures.1 in
    let said = find_refused c.args.fold.now (λ i. (c.type_inv.fold i).fits) c.args.offsets.now c.args.before.now c.args.position _ c.in_err-read_alone.ensures in
    record { answered = rw (p.1, p.2) said; right = rw p.1 tt }

pub returns-then-not-is_index-clause-answered : goal.returns-then-not-is_index-clause-answered
returns-then-not-is_index-clause-answered c =
    rw c.at.ensures (other_index c.args.fold.now (λ i. (c.type_inv.fold i).fits) c.args.offsets.now c.args.before.now c.args.position _ c.in_ok-read_alone.ensures (sym c.is_index.ensures ∙ c.if-not-is_index.true))

pub returns-then-read-position-clause-answered : goal.returns-then-read-position-clause-answered
returns-then-read-position-clause-answered c =
    rw c.at-then-read-position.ensures (past_the_total c.args.fold.now (λ i. (c.type_inv.fold i).fits) c.args.offsets.now c.args.before.now c.args.position _ c.in_ok-read_alone.ensures (sym c.is_index.ensures ∙ c.if-not-is_index.false) (omega arith))

pub last_up_to-i-requires : goal.last_up_to-i-requires
last_up_to-i-requires c = some_entry c.args.fold.now (λ i. (c.type_inv.fold i).fits) c.args.offsets.now c.args.before.now c.args.position _ c.in_ok-read_alone.ensures (sym c.is_index.ensures ∙ c.if-not-is_index.false) (omega arith)

pub bounds-offsets-i : goal.bounds-offsets-i
bounds-offsets-i c = entry_offset c.args.fold.now (λ i. (c.type_inv.fold i).fits) c.args.offsets.now c.args.before.now c.args.position _ c.in_ok-read_alone.ensures (sym c.is_index.ensures ∙ c.if-not-is_index.false) (omega arith) c.last_up_to-i.ensures

pub descend-offset-requires : goal.descend-offset-requires
descend-offset-requires c = (_, node_in c.args.fold.now (λ i. (c.type_inv.fold i).fits) c.args.offsets.now c.args.before.now c.args.position _ c.in_ok-read_alone.ensures (sym c.is_index.ensures ∙ c.if-not-is_index.false) (omega arith) c.last_up_to-i.ensures)

pub overflow_add-result : goal.overflow_add-result
overflow_add-result c = omega (arith, label_within c.args.fold.now (λ i. (c.type_inv.fold i).fits) c.args.offsets.now c.args.before.now c.args.position _ c.in_ok-read_alone.ensures (sym c.is_index.ensures ∙ c.if-not-is_index.false) (omega arith) c.last_up_to-i.ensures c.descend-offset.ensures)

pub bounds-fold-offset : goal.bounds-fold-offset
bounds-fold-offset c = omega (arith, label_within c.args.fold.now (λ i. (c.type_inv.fold i).fits) c.args.offsets.now c.args.before.now c.args.position _ c.in_ok-read_alone.ensures (sym c.is_index.ensures ∙ c.if-not-is_index.false) (omega arith) c.last_up_to-i.ensures c.descend-offset.ensures)

pub bounds-fold-offset-2 : goal.bounds-fold-offset-2
bounds-fold-offset-2 c = omega (arith, label_within c.args.fold.now (λ i. (c.type_inv.fold i).fits) c.args.offsets.now c.args.before.now c.args.position _ c.in_ok-read_alone.ensures (sym c.is_index.ensures ∙ c.if-not-is_index.false) (omega arith) c.last_up_to-i.ensures c.descend-offset.ensures)

pub returns : goal.returns
returns c =
    let said = node_found c.args.fold.now (λ i. (c.type_inv.fold i).fits) c.args.offsets.now c.args.before.now c.args.position _ c.in_ok-read_alone.ensures (sym c.is_index.ensures ∙ c.if-not-is_index.false) (omega arith) c.last_up_to-i.ensures c.descend-offset.ensures in
    record { answered = said; right = answer_right c.args.fold.now (λ i. (c.type_inv.fold i).fits) c.args.offsets.now c.args.before.now c.args.position _ said refl }
