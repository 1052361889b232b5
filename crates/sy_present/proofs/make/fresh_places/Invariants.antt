use Rattle.std.proofs.Common.{◌≡◌, ◌++◌, drop, map}
use Rattle.sy_present.specs.Machine.Fresh.{fresh_place}
use Rattle.sy_present.proofs.make.fresh_places.Given as goal

abbrev pub invariant-loop-position : goal.invariant-loop-position
invariant-loop-position l = l.places.items ++ map fresh_place (drop l.position-index l.positions) ≡ map fresh_place l.positions
