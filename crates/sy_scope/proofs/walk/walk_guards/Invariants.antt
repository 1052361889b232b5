use Rattle.std.proofs.Common.{◌≡◌, ◌++◌, flat_map, take}
use Rattle.sy_scope.proofs.walk.walk_guards.Given as goal

abbrev pub invariant-guard : goal.invariant-guard
invariant-guard g l = l.out ≡ l.initial.out ++ flat_map ((g.L.Leaves.found l.leaves).guard l.event) (take l.guard-index l.guards)
