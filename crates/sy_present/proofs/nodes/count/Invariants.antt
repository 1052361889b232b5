use Rattle.std.proofs.Common.{◌≡◌, ◌≤◌, map, take}
use Rattle.sy_order.specs.Nodes.{as_defined}
use Rattle.sy_present.specs.Machine.Counts.{count_acting}
use Rattle.sy_present.proofs.nodes.count.Given as goal

abbrev pub invariant-loop-node : goal.invariant-loop-node
invariant-loop-node l = record {
  few : l.count ≤ l.node-index;
  counted : l.count ≡ count_acting l.deed l.verb (map as_defined (take l.node-index l.nodes));
}
