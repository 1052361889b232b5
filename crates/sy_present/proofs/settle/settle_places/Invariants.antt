use Rattle.std.proofs.Common.{◌≡◌, ◌++◌, map, take, drop}
use Rattle.sy_quiet.specs.Histories.{History}
use Rattle.sy_prop.specs.Standing.{present_point, IsMadeFor as LatchesMade, StandsFor as LatchesStand}
use Rattle.sy_present.specs.Machine.Settled.{settled, setting_from}
use Rattle.sy_present.proofs.SettledPlaces.{AreUnset}
use Rattle.sy_present.proofs.settle.settle_places.Given as goal

abbrev pub invariant-loop-place : goal.invariant-loop-place
invariant-loop-place l = record {
  number : l.number ≡ l.place-index;
  made : LatchesMade l.latches l.deed;
  point : present_point l.latches ≡ present_point l.fn.latches;
  places : l.places ≡ map (settled l.point) (take l.place-index l.fn.places) ++ drop l.place-index l.fn.places;
  stands : (h : History) → AreUnset l.fn.places h → LatchesStand l.fn.latches l.deed h
      → LatchesStand l.latches l.deed (setting_from 0 (take l.place-index l.fn.places) h);
}
