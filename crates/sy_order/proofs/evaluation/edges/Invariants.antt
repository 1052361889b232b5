use Rattle.std.proofs.Common.{◌≡◌}
use Rattle.sy_order.specs.Machine.NodeEdges.{edges_below}
use Rattle.sy_order.proofs.evaluation.edges.Given as goal

abbrev pub invariant-loop-number : goal.invariant-loop-number
invariant-loop-number l = l.edges ≡ edges_below l.table l.number
