use Rattle.std.proofs.Common.{◌≡◌, map, take, drop, ◌++◌}
use Rattle.sy_present.specs.Machine.Begun.{begun}
use Rattle.sy_present.proofs.seen.clear.Given as goal

abbrev pub invariant-loop-place : goal.invariant-loop-place
invariant-loop-place l =
    l.places ≡ map begun (take l.place-index l.initial.places) ++ drop l.place-index l.initial.places
