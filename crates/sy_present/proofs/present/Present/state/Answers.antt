use Rattle.std.proofs.Common.{◌≡◌, Some, None, length, slice_get, refl, sym, ◌∙◌, ap, subst}
use Rattle.std.proofs.lemmas.Option.{slice_get_past, slice_get_read}
use Rattle.sy_core.specs.Chronicle.{state_at}
use Rattle.sy_quiet.proofs.States.{null_past}
use Rattle.sy_present.proofs.Forms.{none_there}
use Rattle.sy_present.proofs.present.Present.state.Goals as goal

pub returns-in-None : goal.returns-in-None
returns-in-None c = λ deed narrative n made stands.
    let i = c.in-Position.position in
    let none = subst (λ l. slice_get l i ≡ None) c.deref.ensures.value (slice_get_past c.deref.result.now i c.in-None.ensures.lookup.3) in
    sym (ap (state_at deed narrative n) c.in-Position.is ∙ null_past deed narrative n i (none_there c.args.self.now deed made i none))

pub returns-in-Some : goal.returns-in-Some
returns-in-Some c = λ deed narrative n made stands.
    let i = c.in-Position.position in
    let place = c.in-Some.place.now in
    let l = c.in-Some.ensures.lookup in
    let is = subst (λ l. slice_get l i ≡ Some place) c.deref.ensures.value (slice_get_read c.deref.result.now (length c.deref.result.now) i place refl l.3.0 l.1) in
    (stands.places i place is).state ∙ sym (ap (state_at deed narrative n) c.in-Position.is)
