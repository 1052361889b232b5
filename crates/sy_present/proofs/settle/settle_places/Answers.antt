use Rattle.std.proofs.Common.{◌+◌, ◌∙◌, ap}
use Rattle.sy_present.specs.Machine.Settled.{settled}
use Rattle.sy_present.proofs.Walking.{set_goes_on}
use Rattle.sy_present.proofs.SettledPlaces.{one_told}
use Rattle.sy_present.proofs.settle.settle_places.Goals as goal

pub loop-place-preserved : goal.loop-place-preserved
loop-place-preserved c =
    let init = c.args.places.now in
    let i = c.loop-place.place-index in
    let made = c.loop-place.invariant.places in
    record {
      number = ap (λ k. k + 1) c.loop-place.invariant.number;
      made = c.set_state.ensures.made;
      point = c.set_state.ensures.point ∙ c.loop-place.invariant.point;
      places = set_goes_on (settled _) init c.loop-place.places i _ _ c.loop-place-test.true made c.settle_place.ensures;
      stands = λ h unset stands.
          one_told c.args.deed.now c.loop-place.latches c.set_state.new.latches init c.loop-place.places (settled _) _ i c.loop-place.number _ c.settle_place.new.place c.loop-place-test.true c.loop-place.invariant.number made c.settle_place.ensures c.set_state.ensures.stands h unset
          (c.loop-place.invariant.stands h unset stands);
    }
