use Rattle.std.proofs.Common.{refl}
use Rattle.sy_present.specs.Machine.Begun.{begun}
use Rattle.sy_present.proofs.Walking.{set_goes_on, set_is_done}
use Rattle.sy_present.proofs.seen.clear.Goals as goal

pub loop-place-preserved : goal.loop-place-preserved
loop-place-preserved c = set_goes_on begun c.args.places.now c.loop-place.places c.loop-place.place-index _ _ c.loop-place-test.true c.loop-place.invariant refl

pub returns : goal.returns
returns c = set_is_done begun c.args.places.now c.loop-place.places c.loop-place.place-index c.loop-place-test.false c.loop-place.invariant
