use Rattle.std.proofs.Common.{◌≡◌, ◌++◌, flat_map, take}
use Rattle.sy_types.specs.Conditions.{other_atoms}
use Rattle.sy_types.proofs.conditions.check_section.Given as goal

abbrev pub invariant-condition : goal.invariant-condition
invariant-condition l = l.out ≡ l.initial.out ++ flat_map other_atoms (take l.condition-index l.conditions)
