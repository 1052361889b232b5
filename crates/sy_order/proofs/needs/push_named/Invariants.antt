use Rattle.std.proofs.Common.{◌≡◌, ◌++◌, drop}
use Rattle.sy_core.specs.Prerequisites.{named_nodes}
use Rattle.sy_order.proofs.needs.push_named.Given as goal

abbrev pub invariant-loop-name : goal.invariant-loop-name
invariant-loop-name l =
    l.nodes ++ named_nodes l.table (drop l.name-index l.name-items) ≡ l.initial.nodes ++ named_nodes l.table l.name-items
