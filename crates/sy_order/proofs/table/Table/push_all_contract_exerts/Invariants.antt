use Rattle.std.proofs.Common.{◌≡◌, ◌++◌, drop, map}
use Rattle.sy_core.specs.Prerequisites.{Exert}
use Rattle.sy_order.proofs.table.Table.push_all_contract_exerts.Given as goal

abbrev pub invariant-loop-power : goal.invariant-loop-power
invariant-loop-power l =
    l.nodes ++ map (λ power. Exert power.number) (drop l.power-index l.power-items)
    ≡ l.initial.nodes ++ map (λ power. Exert power.number) l.power-items
