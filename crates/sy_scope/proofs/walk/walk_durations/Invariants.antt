use Rattle.std.proofs.Common.{◌≡◌, ◌++◌, flat_map, take}
use Rattle.sy_scope.proofs.walk.walk_durations.Given as goal

abbrev pub invariant-duration : goal.invariant-duration
invariant-duration g l = l.out ≡ l.initial.out ++ flat_map (g.L.Leaves.found l.leaves).duration (take l.duration-index l.durations)
