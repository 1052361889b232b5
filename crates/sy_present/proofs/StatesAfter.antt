-- The states of a deed's positions after a point, by what is kept of them.
use Rattle.std.proofs.Common.{◌≡◌, ◌∙◌, ℕ, Bool, ◌&&◌, List, map, Some, option_map, slice_get, refl, sym, ap}
use Rattle.std.proofs.Math.Path.{fun_ext}
use Rattle.std.proofs.lemmas.Option.{slice_get-map, same_Some}
use Rattle.sy_words.specs.declared.form.Form.{Form}
use Rattle.sy_core.specs.declared.position.Position.{Position}
use Rattle.sy_core.specs.declared.deed.Deed.{Deed}
use Rattle.sy_core.specs.declared.state.StateOf.{StateOf}
use Rattle.sy_core.specs.declared.state.StateOf.TheVariants as S
use Rattle.sy_core.specs.States.{same_state, state_after}
use Rattle.sy_core.specs.Conditions.{is_settled, next_state}
use Rattle.sy_machines.specs.Fired.{has}
use Rattle.sy_quiet.specs.Histories.{History}
use Rattle.sy_present.specs.declared.place.Place.{Place}
use Rattle.sy_present.specs.Machine.Told.{IsPlaceAt}

-- where the places have the forms of the positions, a position that is there has a place of its form
form-there : (places : List Place) (positions : List Position) (i : ℕ) (p : Position) → map (λ (place : Place). place.form) places ≡ map (λ (p : Position). p.form) positions → slice_get positions i ≡ Some p → option_map (λ (place : Place). place.form) (slice_get places i) ≡ Some p.form
form-there places positions i p forms there =
    sym (slice_get-map (λ (place : Place). place.form) places i) ∙ ap (λ (fs : List Form). slice_get fs i) forms ∙ slice_get-map (λ (p : Position). p.form) positions i ∙ ap (option_map (λ (p : Position). p.form)) there

-- the state after the point of a position's place is that of the position
pub next-there : (deed : Deed) (h : History) (places : List Place) (i : ℕ) (place : Place) (p : Position) → map (λ (place : Place). place.form) places ≡ map (λ (p : Position). p.form) deed.positions → slice_get deed.positions i ≡ Some p → slice_get places i ≡ Some place → IsPlaceAt place deed h i → state_after place.form (has place.fired) place.state ≡ next_state h.now i p
next-there deed h places i place p forms there kept told =
    let form : place.form ≡ p.form = same_Some place.form p.form (sym (ap (option_map (λ (place : Place). place.form)) kept) ∙ form-there places deed.positions i p forms there) in
    ap (λ form. state_after form (has place.fired) place.state) form ∙ ap (λ fired. state_after p.form fired place.state) (fun_ext told.fired) ∙ ap (state_after p.form _) told.state

-- an obligation that isn't violated needs no remedy to be settled
settled-where-violated : (s : StateOf) (remedied : Bool) → is_settled s (same_state s S.Violation && remedied) ≡ is_settled s remedied
settled-where-violated S.Null remedied = refl
settled-where-violated S.Create remedied = refl
settled-where-violated S.InEffect remedied = refl
settled-where-violated S.Suspension remedied = refl
settled-where-violated S.Fulfillment remedied = refl
settled-where-violated S.Violation remedied = refl
settled-where-violated S.Discharge remedied = refl
settled-where-violated S.SuccessfulTermination remedied = refl
settled-where-violated S.UnsuccessfulTermination remedied = refl
settled-where-violated S.Form remedied = refl

-- so its remedies count only where it is violated
pub settled-there : (s t : StateOf) (asked remedied : Bool) → s ≡ t → asked ≡ (same_state s S.Violation && remedied) → is_settled s asked ≡ is_settled t remedied
settled-there s t asked remedied same told = ap (is_settled s) told ∙ (settled-where-violated s remedied ∙ ap (λ u. is_settled u remedied) same)
