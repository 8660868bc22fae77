-- How far an output is written.
use Rattle.std.specs.Prelude.{ℕ, ◌*◌}
use Rattle.format.specs.Limits.{season}

-- No fold has more bytes than four for each node, in either family, so no place behind one is further on. Season runs have the most
-- nodes.
abbrev pub most_bytes : ℕ
most_bytes = 4 * season.nodes
