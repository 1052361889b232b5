use Rattle.std.proofs.Common.{◌≡◌, flat_map, take}
use Rattle.sy_terms.specs.Checks.{false_condition}
use Rattle.sy_terms.proofs.checks.find_false.Given as goal

abbrev pub invariant-condition : goal.invariant-condition
invariant-condition l =
    l.out ≡ flat_map (false_condition l.scope l.environment) (take l.condition-index l.conditions)
