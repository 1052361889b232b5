use Rattle.std.proofs.Common.{◌≡◌, map, take}
use Rattle.sy_scope.specs.Scopes.{declaration_sort}
use Rattle.sy_scope.proofs.scope.declaration_sorts.Given as goal

abbrev pub invariant-thing : goal.invariant-thing
invariant-thing l = l.sorts ≡ map (declaration_sort l.ontology.table) (take l.thing-index l.things)
