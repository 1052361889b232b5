use Rattle.std.proofs.Common.{◌≡◌, ◌∙◌, sym, ap, Some, slice_get}
use Rattle.std.proofs.lemmas.Option.{slice_get-get_or}
use Rattle.sy_present.proofs.StatesAfter.{next-there}
use Rattle.sy_present.proofs.present.Present.next_state_of.Goals as goal

pub returns-in-Some : goal.returns-in-Some
returns-in-Some c = λ deed h p made present there.
    let places = c.args.self.now.places.items in
    let place = c.in-Some.place.now in
    let found = c.in-Some.ensures.lookup in
    let items : c.deref.result.now ≡ places = c.deref.ensures.value in
    let kept : slice_get places c.args.number ≡ Some place =
    ap (λ xs. slice_get xs c.args.number) (sym items) ∙ (slice_get-get_or c.deref.result.now c.args.number place found.3.0 ∙ ap Some (sym found.1)) in
    c.next_state.ensures ∙ next-there deed h places c.args.number place p made.forms there kept (present.places c.args.number place kept)
