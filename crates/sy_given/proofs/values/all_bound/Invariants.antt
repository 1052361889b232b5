use Rattle.std.proofs.Common.{◌≡◌, map, take}
use Rattle.sy_given.specs.Bound.{bound_value}
use Rattle.sy_given.proofs.values.all_bound.Given as goal

abbrev pub invariant-parameter : goal.invariant-parameter
invariant-parameter l = l.values ≡ map (bound_value l.scope l.unit l.givens) (take l.parameter-index l.parameters)
