use Rattle.std.proofs.Common.{◌≡◌, ◌++◌, drop}
use Rattle.std.specs.List.{flat_map}
use Rattle.sy_core.specs.Prerequisites.{obligation_nodes}
use Rattle.sy_order.proofs.needs.push_with_remedies.Given as goal

abbrev pub invariant-loop-remedy : goal.invariant-loop-remedy
invariant-loop-remedy l =
    l.nodes ++ flat_map obligation_nodes (drop l.remedy-index l.remedy-items)
    ≡ l.initial.nodes ++ flat_map obligation_nodes l.remedy-items
