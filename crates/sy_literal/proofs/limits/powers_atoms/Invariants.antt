use Rattle.std.proofs.Common.{◌≡◌, ◌-◌, ◌^◌, flat_map, min, take}
use Rattle.std.specs.List.{sum_by}
use Rattle.sy_scope.specs.Walks.{power_propositions}
use Rattle.sy_literal.specs.Limits.{atoms}
use Rattle.sy_literal.proofs.limits.powers_atoms.Given as goal

abbrev pub invariant-power : goal.invariant-power
invariant-power l =
    l.count ≡ min (sum_by atoms (flat_map power_propositions (take l.power-index l.powers))) (2 ^ 64 - 1)
