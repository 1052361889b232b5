use Rattle.std.proofs.Common.{◌≡◌, ◌++◌, flat_map, take}
use Rattle.sy_types.specs.Declarations.{wrong_parameter}
use Rattle.sy_types.proofs.declarations.check_parameters.Given as goal

abbrev pub invariant-parameter : goal.invariant-parameter
invariant-parameter l = l.out ≡ l.initial.out ++ flat_map (wrong_parameter l.scope) (take l.parameter-index l.parameters)
