use Rattle.std.proofs.Common.{refl, ◌∙◌}
use Rattle.std.proofs.lemmas.List.{with_items_is}
use Rattle.sy_present.proofs.Made.{copied_stands}
use Rattle.sy_present.proofs.present.Present.copy_into.Goals as goal

pub returns-clause-stands : goal.returns-clause-stands
returns-clause-stands c = λ deed narrative n made made' stands.
    let copied = with_items_is c.args.other.now.places c.copy_places.new.to (c.copy_places.auto.to ∙ c.as_mut_slice.ensures.len) in
    let places = copied ∙ (c.copy_places.ensures ∙ c.as_slice.ensures.value) in
    copied_stands c.args.self.now _ deed narrative n refl places (c.copy_into.ensures.stands deed) stands
