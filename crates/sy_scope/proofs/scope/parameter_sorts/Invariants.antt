use Rattle.std.proofs.Common.{◌≡◌, map, take}
use Rattle.sy_scope.specs.Scopes.{parameter_sort}
use Rattle.sy_scope.proofs.scope.parameter_sorts.Given as goal

abbrev pub invariant-thing : goal.invariant-thing
invariant-thing l = l.sorts ≡ map (parameter_sort l.ontology.table) (take l.thing-index l.things)
