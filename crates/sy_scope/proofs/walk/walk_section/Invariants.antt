use Rattle.std.proofs.Common.{◌≡◌, ◌++◌, flat_map, take}
use Rattle.sy_scope.specs.Walks.{finds}
use Rattle.sy_scope.proofs.walk.walk_section.Given as goal

abbrev pub invariant-proposition : goal.invariant-proposition
invariant-proposition g l = l.out ≡ l.initial.out ++ flat_map (finds (g.L.Leaves.found l.leaves)) (take l.proposition-index l.propositions)
