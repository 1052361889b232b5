use Rattle.std.proofs.Common.{map, refl, ◌∙◌, ap}
use Rattle.std.proofs.lemmas.List.{with_items_is}
use Rattle.sy_core.specs.Chronicle.{exerts}
use Rattle.sy_present.specs.declared.place.Place.{Place}
use Rattle.sy_present.specs.Machine.Asked.{asking}
use Rattle.sy_present.proofs.Asked.{asking_forms}
use Rattle.sy_present.proofs.SeenHappenings.{present_seen, places_asked, places_stay}
use Rattle.sy_present.proofs.present.Present.see.Goals as goal

pub returns-in-Exert-clause-made : goal.returns-in-Exert-clause-made
returns-in-Exert-clause-made c =
    let old = c.args.self.now in
    let e = with_items_is old.places c.ask.new.places (c.ask.auto.places ∙ c.as_mut_slice.ensures.len) in
    let takes = e ∙ (c.ask.ensures ∙ ap (asking c.in-Exert.power) c.as_mut_slice.ensures.value) in
    record {
      latches = c.see.ensures.made;
      few = c.requires.made.few;
      forms = ap (map (λ (place : Place). place.form)) takes ∙ (asking_forms c.in-Exert.power old.places.items ∙ c.requires.made.forms);
      order = c.requires.made.order;
      acting = c.requires.made.acting;
    }

pub returns-in-Exert-clause-present : goal.returns-in-Exert-clause-present
returns-in-Exert-clause-present c = λ h present.
    let old = c.args.self.now in
    let e = with_items_is old.places c.ask.new.places (c.ask.auto.places ∙ c.as_mut_slice.ensures.len) in
    let takes = e ∙ (c.ask.ensures ∙ ap (asking c.in-Exert.power) c.as_mut_slice.ensures.value) in
    present_seen c.args.what.now h old _ c.args.deed.now refl refl refl refl (c.see.ensures.stands h present.latches)
    (places_asked c.in-Exert.power c.args.what.now c.in-Exert.is c.args.deed.now h old.places.items _ takes present.places) present

pub returns-in_default-clause-present : goal.returns-in_default-clause-present
returns-in_default-clause-present c = λ h present.
    let old = c.args.self.now in
    present_seen c.args.what.now h old _ c.args.deed.now refl refl refl refl (c.see.ensures.stands h present.latches)
    (places_stay c.args.what.now (λ i. ap (exerts i) c.in_default.is) c.args.deed.now h old.places.items present.places) present
