-- `kept` meets its contract.
use Rattle.harness.proofs.Runs.{few_nodes}
use Rattle.harness.proofs.lent.kept.Goals as goal

pub used_entries-n-requires : goal.used_entries-n-requires
used_entries-n-requires c = rw c.nodes_of.ensures (few_nodes c.args.run.now (λ i. (c.type_inv.run i).fits))
