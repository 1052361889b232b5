-- There is one place for each position of the deed.
use Rattle.std.proofs.Common.{◌≡◌, ℕ, Option, Some, None, option_map, slice_get, refl, sym, ◌∙◌, ap}
use Rattle.std.proofs.lemmas.Option.{slice_get-map}
use Rattle.sy_core.specs.declared.position.Position.{Position}
use Rattle.sy_core.specs.declared.deed.Deed.{Deed}
use Rattle.sy_present.specs.declared.place.Place.{Place}
use Rattle.sy_present.specs.declared.present.Present.{Present}
use Rattle.sy_present.specs.Standing.{IsMadeFor}

module _ (present : Present) (deed : Deed) (made : IsMadeFor present deed) (i : ℕ) where
  same_form : option_map (λ (place : Place). place.form) (slice_get present.places.items i) ≡ option_map (λ (p : Position). p.form) (slice_get deed.positions i)
  same_form =
      sym (slice_get-map (λ (place : Place). place.form) present.places.items i)
      ∙ (ap (λ l. slice_get l i) made.forms
      ∙ slice_get-map (λ (p : Position). p.form) deed.positions i)

  -- where the position is there, its place is
  pub place_there : (p : Position) → slice_get deed.positions i ≡ Some p → (place : Place) × (slice_get present.places.items i ≡ Some place)
  place_there p is = at (slice_get present.places.items i) refl
    where
      at : (o : Option Place) → slice_get present.places.items i ≡ o → (place : Place) × (slice_get present.places.items i ≡ Some place)
      at (Some place) e = (place, e)
      at None e = let same = same_form in let none = ap (option_map (λ (place : Place). place.form)) e in let some = ap (option_map (λ (p : Position). p.form)) is in cc

  -- where its place isn't there, the position isn't
  pub none_there : slice_get present.places.items i ≡ None → slice_get deed.positions i ≡ None
  none_there none = at (slice_get deed.positions i) refl
    where
      at : (o : Option Position) → slice_get deed.positions i ≡ o → o ≡ None
      at None e = refl
      at (Some p) e = let same = same_form in let n = ap (option_map (λ (place : Place). place.form)) none in let some = ap (option_map (λ (p : Position). p.form)) e in cc
