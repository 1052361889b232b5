use Rattle.std.proofs.Common.{◌≡◌, ◌++◌, map, drop}
use Rattle.sy_core.specs.Prerequisites.{nodes_at, nodes_in_order}
use Rattle.sy_order.specs.Nodes.{as_defined}
use Rattle.sy_present.proofs.nodes.nodes_in_order.Given as goal

-- what was added and what the other numbers give are all the nodes
abbrev pub invariant-loop-number : goal.invariant-loop-number
invariant-loop-number l = map as_defined l.nodes.items ++ nodes_at l.deed (drop l.number-index l.number-items) ≡ nodes_in_order l.deed
