use Rattle.std.proofs.Common.{map, length, arith, refl, ◌∙◌, ap, w64}
use Rattle.std.proofs.lemmas.Int.{to_z-of_z}
use Rattle.std.proofs.lemmas.List.{with_items_is}
use Rattle.sy_present.specs.declared.place.Place.{Place}
use Rattle.sy_present.specs.Machine.Settled.{settled}
use Rattle.sy_present.proofs.SettledPlaces.{as_many, present_settled, settled_forms, alike_unset}
use Rattle.sy_present.proofs.present.Present.settle.Goals as goal

pub settle_places-requires-clause-few : goal.settle_places-requires-clause-few
settle_places-requires-clause-few c =
    let given = ap length c.as_mut_slice.ensures.value in
    let long = as_many c.args.deed.now c.args.self.now.places.items c.requires.made.forms in
    omega (arith, c.requires.made.few, given, long)

pub returns-clause-made : goal.returns-clause-made
returns-clause-made c =
    let old = c.args.self.now in
    let e = with_items_is old.places c.settle_places.new.places (c.settle_places.auto.places ∙ c.as_mut_slice.ensures.len) in
    let takes = e ∙ (c.settle_places.ensures.places ∙ ap (map (settled _)) c.as_mut_slice.ensures.value) in
    record {
      latches = c.settle_places.ensures.made;
      few = c.requires.made.few;
      forms = ap (map (λ (place : Place). place.form)) takes ∙ (settled_forms _ old.places.items ∙ c.requires.made.forms);
      order = c.requires.made.order;
      acting = c.requires.made.acting;
    }

pub returns-clause-settled : goal.returns-clause-settled
returns-clause-settled c = λ h present here.
    let old = c.args.self.now in
    let deed = c.args.deed.now in
    let e = with_items_is old.places c.settle_places.new.places (c.settle_places.auto.places ∙ c.as_mut_slice.ensures.len) in
    let takes = e ∙ (c.settle_places.ensures.places ∙ ap (map (settled _)) c.as_mut_slice.ensures.value) in
    let point_is = to_z-of_z w64 c.args.point c.ranges.point in
    present_settled deed h old _ c.set_state.new.latches _ c.next_contract-state.result (point_is ∙ here) c.requires.made.forms c.next_contract-state.ensures refl takes refl c.set_state.ensures.stands
    (alike_unset deed old.places.items c.as_mut_slice.result.now c.as_mut_slice.ensures.value c.set_state.new.latches c.settle_places.new.latches c.settle_places.ensures.stands) present
