-- `table::nodes::Nodes::list` meets its contract: the whole run stands at its first byte.
use Rattle.table.proofs.Spots.{whole_at}
use Rattle.table.proofs.nodes.Nodes.list.Goals as goal

pub list_from-requires-clause-stands : goal.list_from-requires-clause-stands
list_from-requires-clause-stands c = (0, (_, whole_at _ _ c.requires.spelled c.requires.run_value.0))

pub returns : goal.returns
returns c = (c.list_from.ensures 0 _ (whole_at _ _ c.requires.spelled c.requires.run_value.0)).listed
