use Rattle.std.proofs.Common.{◌≡◌, ◌++◌, drop, map}
use Rattle.sy_order.specs.Nodes.{as_defined, number_by}
use Rattle.sy_order.specs.Machine.NodeEdges.{edges_to}
use Rattle.sy_order.proofs.evaluation.add_edges.Given as goal

abbrev pub invariant-loop-need : goal.invariant-loop-need
invariant-loop-need l =
    l.edges ++ edges_to l.node (map (number_by l.index) (map as_defined (drop l.need-index l.needs)))
    ≡ l.initial.edges ++ edges_to l.node (map (number_by l.index) (map as_defined l.needs))
