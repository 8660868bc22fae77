-- What the code's answers, values or a refusal, say in numbers.
use Rattle.std.specs.Prelude.{ℕ, Result, Ok, Err}
use Rattle.format.specs.Answers.{number}
use Rattle.format.specs.declared.answers.Refusal.{Refusal}
use Rattle.index.specs.Numbers.{Indexed, Found}
use Rattle.index.specs.declared.FoundNode.{FoundNode}

-- Of the builder, which answers the number of entries.
abbrev pub indexed_said : Result ℕ Refusal → Indexed
indexed_said (Ok n) = record { refusal = 0; place = 0; entries = n }
indexed_said (Err e) = record { refusal = number e.reason; place = e.place; entries = 0 }

-- Of the finder.
abbrev pub node_said : FoundNode → Found
node_said w = record { refusal = 0; place = 0; label = w.label; command = w.command; offset = w.offset }

abbrev pub found_said : Result FoundNode Refusal → Found
found_said (Ok w) = node_said w
found_said (Err e) = record { refusal = number e.reason; place = e.place; label = 0; command = 0; offset = 0 }
