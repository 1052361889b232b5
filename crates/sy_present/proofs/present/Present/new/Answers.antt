use Rattle.std.proofs.Common.{map, refl, ◌∙◌, ap, subst, arith}
use Rattle.sy_order.specs.Nodes.{as_defined}
use Rattle.sy_present.specs.declared.place.Place.{Place}
use Rattle.sy_present.specs.Machine.Counts.{AreActing}
use Rattle.sy_present.specs.Machine.Fresh.{fresh_place}
use Rattle.sy_present.proofs.Made.{fresh_forms, stands_at_start}
use Rattle.sy_present.proofs.present.Present.new.Goals as goal

pub returns-clause-start : goal.returns-clause-start
returns-clause-start c = λ narrative.
    let deed = c.args.deed.now in
    let places = c.in_ok-places.ensures ∙ ap (map fresh_place) c.items.ensures in
    stands_at_start _ deed narrative refl places c.in_ok-latches.ensures.stands

pub returns-clause-made : goal.returns-clause-made
returns-clause-made c =
    let deed = c.args.deed.now in
    let places = c.in_ok-places.ensures ∙ ap (map fresh_place) c.items.ensures in
    let order = c.in_ok-order.ensures in
    record {
      latches = c.in_ok-latches.ensures.made;
      few = let l = c.requires.limits.positions in omega (arith, l);
      forms = ap (map (λ (place : Place). place.form)) places ∙ fresh_forms deed.positions;
      order = order;
      acting = subst (AreActing c.count_acting-acting.result deed) (ap (map as_defined) c.as_slice.ensures.value ∙ order) c.count_acting-acting.ensures;
    }
