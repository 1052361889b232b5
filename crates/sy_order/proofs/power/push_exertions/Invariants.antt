use Rattle.std.proofs.Common.{◌≡◌, ◌++◌, drop}
use Rattle.std.specs.List.{flat_map}
use Rattle.sy_order.specs.Machine.Powers.{exertion}
use Rattle.sy_order.proofs.power.push_exertions.Given as goal

abbrev pub invariant-loop-power : goal.invariant-loop-power
invariant-loop-power l =
    l.nodes ++ flat_map (exertion l.verb) (drop l.power-index l.powers) ≡ l.initial.nodes ++ flat_map (exertion l.verb) l.powers
