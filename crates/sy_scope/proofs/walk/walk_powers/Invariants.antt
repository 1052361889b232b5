use Rattle.std.proofs.Common.{◌≡◌, ◌++◌, flat_map, take}
use Rattle.sy_scope.specs.Walks.{finds, power_propositions}
use Rattle.sy_scope.proofs.walk.walk_powers.Given as goal

abbrev pub invariant-power : goal.invariant-power
invariant-power g l = l.out ≡ l.initial.out ++ flat_map (finds (g.L.Leaves.found l.leaves)) (flat_map power_propositions (take l.power-index l.powers))
