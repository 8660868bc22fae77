-- `folder::run::fill` meets its contract: the prices are those of the tariff, and lists of zeros are ready to work in.
use mathlib.Core.Path.{refl}
use native.Mathlib.Omega.{arith}
use Rattle.format.specs.Limits.{allowed}
use Rattle.format.proofs.Lists.{zeros}
use Rattle.filling.proofs.Entries.{used_filled}
use Rattle.folder.proofs.PriceLists.{prices_same, prepared}
use Rattle.folder.proofs.Runs.{level_ready, run_filled}
use Rattle.folder.proofs.run.fill.Goals as goal

pub invariant_of-scratch : goal.invariant_of-scratch
invariant_of-scratch c =
    record {
      tails_ready = record { long = refl; low = λ j. omega (arith, zeros 1025 j) };
      keys_ready = record { long = refl; low = λ j. omega (arith, zeros 1025 j) };
    }

pub enter_tree-requires-clause-level_ready : goal.enter_tree-requires-clause-level_ready
enter_tree-requires-clause-level_ready c =
    let a = c.args in
    let w = a.tariff.now in
    let e = c.tables_of-tables.ensures in
    rw (e.lent.0, e.lent.1, e.priced)
    (level_ready c.requires.run_ready a.limit
    (prepared w.steps.now w.groups.now _ w.first w.each c.prepare.ensures (omega (arith, c.type_inv.tariff)) (omega (arith, c.type_inv.tariff))
    e.low.0 e.low.1))

pub returns : goal.returns
returns c =
    let a = c.args in
    let A = allowed a.limit a.tariff.now.marks.now in
    let kept = rw c.requires.run_ready.all at c.enter_tree.ensures.kept in
    let e = c.tables_of-tables.ensures in
    let entered = rw (e.lent.0, e.lent.1, e.lent.2, e.priced) at c.enter_tree.ensures.entered in
    record {
      filled =
          run_filled c.requires.run_ready kept (prices_same a.tariff.now.steps.now a.tariff.now.groups.now _ _ _ c.prepare.ensures a.tariff.now.marks.now)
          (used_filled A _ _ _ _ _ (c.requires.run_ready.spelled.run A) entered);
      kept = kept;
    }
