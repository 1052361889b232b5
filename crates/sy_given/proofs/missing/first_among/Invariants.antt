use Rattle.std.proofs.Common.{◌≡◌, None, flat_map, take}
use Rattle.sy_domain.specs.Failures.{first}
use Rattle.sy_given.specs.BoundNames.{missing}
use Rattle.sy_given.proofs.missing.first_among.Given as goal

abbrev pub invariant-parameter : goal.invariant-parameter
invariant-parameter l = first (flat_map (missing l.scope l.givens) (take l.parameter-index l.parameters)) ≡ None
