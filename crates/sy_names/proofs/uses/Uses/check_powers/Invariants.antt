use Rattle.std.proofs.Common.{◌≡◌, ◌++◌, flat_map, take}
use Rattle.sy_names.specs.UnknownNames.{unknown_in_power}
use Rattle.sy_names.proofs.uses.Uses.check_powers.Given as goal

abbrev pub invariant-power : goal.invariant-power
invariant-power l =
    l.out ≡ l.initial.out ++ flat_map (unknown_in_power l.self.scope.now l.self.visible) (take l.power-index l.powers)
