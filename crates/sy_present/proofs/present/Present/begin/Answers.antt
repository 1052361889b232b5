use Rattle.std.proofs.Common.{◌-ℤ◌, nat_abs, map, refl, ◌∙◌, ap, subst, w64}
use Rattle.std.proofs.lemmas.Int.{to_z-of_z}
use Rattle.std.proofs.lemmas.List.{with_items_is}
use Rattle.sy_quiet.specs.Histories.{passing}
use Rattle.sy_prop.specs.Standing.{present_point, StandsFor as LatchesStand}
use Rattle.sy_present.specs.declared.place.Place.{Place}
use Rattle.sy_present.specs.Machine.Begun.{begun}
use Rattle.sy_present.proofs.Begun.{begun_forms, present_begun}
use Rattle.sy_present.proofs.present.Present.begin.Goals as goal

pub returns-clause-made : goal.returns-clause-made
returns-clause-made c =
    let old = c.args.self.now in
    let e = with_items_is old.places c.clear.new.places (c.clear.auto.places ∙ c.as_mut_slice.ensures.len) in
    let takes = e ∙ (c.clear.ensures ∙ ap (map begun) c.as_mut_slice.ensures.value) in
    record {
      latches = c.set_point.ensures.made;
      few = c.requires.made.few;
      forms = ap (map (λ (place : Place). place.form)) takes ∙ (begun_forms old.places.items ∙ c.requires.made.forms);
      order = c.requires.made.order;
      acting = c.requires.made.acting;
    }

pub returns-clause-present : goal.returns-clause-present
returns-clause-present c = λ narrative n stands here.
    let old = c.args.self.now in
    let e = with_items_is old.places c.clear.new.places (c.clear.auto.places ∙ c.as_mut_slice.ensures.len) in
    let takes = e ∙ (c.clear.ensures ∙ ap (map begun) c.as_mut_slice.ensures.value) in
    present_begun c.args.deed.now narrative n old _ c.args.point here refl refl refl takes refl
    (λ h before. subst (λ p. LatchesStand c.set_point.new.self c.args.deed.now (passing (nat_abs (p -ℤ present_point old.latches)) h)) (to_z-of_z w64 c.args.point c.ranges.point) (c.set_point.ensures.stands h before)) stands
