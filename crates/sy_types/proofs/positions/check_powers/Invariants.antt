use Rattle.std.proofs.Common.{◌≡◌, ◌++◌, flat_map, take}
use Rattle.sy_types.specs.Positions.{wrong_power}
use Rattle.sy_types.proofs.positions.check_powers.Given as goal

abbrev pub invariant-power : goal.invariant-power
invariant-power l = l.out ≡ l.initial.out ++ flat_map (wrong_power l.scope l.visible) (take l.power-index l.powers)
