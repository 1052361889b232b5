use Rattle.std.proofs.Common.{refl, sym, ◌∙◌}
use Rattle.sy_present.proofs.Granted.{decided}
use Rattle.sy_present.proofs.Shapes.{found_at}
use Rattle.sy_present.proofs.present.Present.fires_at.Goals as goal

pub returns-then-fire : goal.returns-then-fire
returns-then-fire c = λ h is.
    let at_position = found_at _ _ _ _ c.items.ensures c.in-Some.ensures.lookup.3.0 c.in-Some.ensures.lookup.1 in
    let at_place = found_at _ _ _ _ c.deref.ensures.value c.in-Some-get.ensures.lookup.3.0 c.in-Some-get.ensures.lookup.1 in
    let bears = c.grants.ensures c.args.deed.now h is.latches at_position in
    decided c.args.self.now c.args.deed.now h c.args.number c.in-Some.position.now c.in-Some-get.place.now c.args.kind _ _ c.grants.result c.requires is at_position at_place c.granted-inputs.ensures (sym c.if-fire.true ∙ c.fire.ensures.row) bears

pub returns-else-fire : goal.returns-else-fire
returns-else-fire c = λ h is.
    let at_position = found_at _ _ _ _ c.items.ensures c.in-Some.ensures.lookup.3.0 c.in-Some.ensures.lookup.1 in
    let at_place = found_at _ _ _ _ c.deref.ensures.value c.in-Some-get.ensures.lookup.3.0 c.in-Some-get.ensures.lookup.1 in
    c.if-fire.false ∙ decided c.args.self.now c.args.deed.now h c.args.number c.in-Some.position.now c.in-Some-get.place.now c.args.kind _ _ _ c.requires is at_position at_place c.granted-inputs.ensures (sym c.if-fire.false ∙ c.fire.ensures.row) refl
