-- Each function falls by the nodes of its sequence; at one sequence the fold stands above the span, and that above its first node.
use Rattle.std.proofs.Common.{◌+◌, ◌-◌, ◌*◌, get_or}
use Rattle.writer.proofs.Writings.{Putting}
use Rattle.writer.proofs.Source.+writing.Given as goal

abbrev pub decreases-put_fold : goal.decreases-put_fold
decreases-put_fold l = 3 * (l.first - l.behind) + 2

abbrev pub decreases-put_span : goal.decreases-put_span
decreases-put_span l = 3 * (l.first - l.behind) + 1

abbrev pub decreases-put_node : goal.decreases-put_node
decreases-put_node l = 3 * (l.q - get_or l.self.now.nodes.now.nexts l.q 0)

abbrev pub invariant-put_span-loop-q : goal.invariant-put_span-loop-q
invariant-put_span-loop-q l = Putting l.self l.first l.behind l.to l.initial.out l.q l.p l.out

abbrev pub decreases-put_span-loop-q : goal.decreases-put_span-loop-q
decreases-put_span-loop-q l = l.q
