use Rattle.std.proofs.Common.{◌≡◌, ◌++◌, flat_map, map, take}
use Rattle.sy_scope.specs.Walks.{finds}
use Rattle.sy_scope.proofs.walk.+walking.Given as goal

abbrev pub invariant-walk_each-part : goal.invariant-walk_each-part
invariant-walk_each-part g l =
    l.out ≡ l.initial.out ++ flat_map (λ part. part) (map (finds (g.L.Leaves.found l.leaves)) (take l.part-index l.parts))
