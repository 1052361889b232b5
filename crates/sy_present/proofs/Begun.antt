-- What is kept as a point begins.
use Rattle.std.proofs.Common.{◌≡◌, ℕ, ◌+ℤ◌, ◌-ℤ◌, ℤ, pos, nat_abs, true, false, List, [], ◌∷◌, map, Option, Some, None, slice_get, refl, sym, ◌∙◌, ap, subst, arith}
use Rattle.std.proofs.lemmas.Int.{ints}
use Rattle.std.proofs.lemmas.Option.{slice_get-map}
use Rattle.std.specs.Option.{option_map}
use Rattle.sy_words.specs.declared.kind.Kind.{Kind}
use Rattle.sy_words.specs.declared.kind.Kind.TheVariants as K
use Rattle.sy_words.specs.declared.verb.Verb.{Verb}
use Rattle.sy_words.specs.declared.verb.Verb.TheVariants as Verbs
use Rattle.sy_core.specs.declared.kind.Target.{Target}
use Rattle.sy_core.specs.declared.deed.Deed.{Deed}
use Rattle.sy_core.specs.declared.happening.Happening.{Happening}
use Rattle.sy_core.specs.Conditions.{by, powers_to}
use Rattle.sy_machines.specs.Fired.{has}
use Rattle.sy_quiet.specs.Histories.{History, passing, history_at}
use Rattle.sy_quiet.proofs.NextWake.{none_of_all}
use Rattle.sy_atoms.proofs.Leading.{point_after}
use Rattle.sy_prop.specs.declared.latches.Latches.{Latches}
use Rattle.sy_prop.specs.Standing.{present_point, StandsFor as LatchesStand}
use Rattle.sy_present.specs.declared.place.Place.{Place}
use Rattle.sy_present.specs.declared.present.Present.{Present}
use Rattle.sy_present.specs.Standing.{StandsFor, AreTold, IsKeptAt}
use Rattle.sy_present.specs.Machine.Told.{has_done, IsPlaceAt, IsPresent}
use Rattle.sy_present.specs.Machine.Begun.{nothing_done, none_fired, begun}

nothing_has_fired : (kind : Kind) → has none_fired kind ≡ false
nothing_has_fired K.Exerted = refl
nothing_has_fired K.Triggered = refl
nothing_has_fired K.Activated = refl
nothing_has_fired K.Resumed = refl
nothing_has_fired K.Suspended = refl
nothing_has_fired K.Fulfilled = refl
nothing_has_fired K.Violated = refl
nothing_has_fired K.Expired = refl
nothing_has_fired K.Discharged = refl
nothing_has_fired K.Terminated = refl
nothing_has_fired K.Completed = refl

nothing_is_done : (verb : Verb) → has_done nothing_done verb ≡ false
nothing_is_done Verbs.Suspends = refl
nothing_is_done Verbs.Resumes = refl
nothing_is_done Verbs.Discharges = refl
nothing_is_done Verbs.Terminates = refl
nothing_is_done Verbs.Triggers = refl

-- the places keep their forms
pub begun_forms : (places : List Place) → map (λ (place : Place). place.form) (map begun places) ≡ map (λ (place : Place). place.form) places
begun_forms [] = refl
begun_forms (p ∷ ps) = ap (λ l. p.form ∷ l) (begun_forms ps)

-- so many points lie between
distance : (p q : ℤ) (n : ℕ) → p ≡ q +ℤ pos n → nat_abs (p -ℤ q) ≡ n
distance p q n e = omega (arith, ints, e)

module _ (deed : Deed) (narrative : List Happening) (n : ℕ) where
  abbrev start : History
  start = history_at deed narrative n

  none_acts : (verb : Verb) (x : Target) → by deed start.now verb x ≡ false
  none_acts verb x = none_of_all (λ _. false) (powers_to deed verb x) (λ _. refl)

  place_begun : (i : ℕ) (place : Place) → IsKeptAt place deed narrative n i → IsPlaceAt (begun place) deed start i
  place_begun i place kept = record {
    state = kept.state;
    asked = refl;
    fired = nothing_has_fired;
    done = λ verb. nothing_is_done verb ∙ sym (none_acts verb _);
    violated = kept.violated;
    exerted = kept.exerted;
  }

  place_was : (places : List Place) → ((i : ℕ) (place : Place) → slice_get places i ≡ Some place → IsKeptAt place deed narrative n i) → (i : ℕ) (place : Place) (found : Option Place) → slice_get places i ≡ found → option_map begun found ≡ Some place → IsPlaceAt place deed start i
  place_was places kept i place None is same = cc
  place_was places kept i place (Some before) is same =
      let e : begun before ≡ place = cc in
      subst (λ p. IsPlaceAt p deed start i) e (place_begun i before (kept i before is))

  -- the latches have gone on to the point
  latches_begun : (old new : Latches) (point : ℤ) → point ≡ deed.start +ℤ pos n → AreTold old deed narrative n → ((h : History) → LatchesStand old deed h → LatchesStand new deed (passing (nat_abs (point -ℤ present_point old)) h)) → LatchesStand new deed start
  latches_begun old new point here told goes =
      let h = told.history in
      let reached : start.now.point ≡ h.now.point +ℤ pos told.behind = sym (ap (λ (g : History). g.now.point) told.reach) ∙ point_after told.behind h in
      let way : point ≡ present_point old +ℤ pos told.behind = here ∙ (reached ∙ ap (λ p. p +ℤ pos told.behind) (sym told.stand.at_point)) in
      let far = distance point (present_point old) told.behind way in
      subst (LatchesStand new deed) (ap (λ k. passing k h) far ∙ told.reach) (goes h told.stand)

  pub present_begun : (old new : Present) (point : ℤ) → point ≡ deed.start +ℤ pos n → new.contract ≡ old.contract → new.contract_done ≡ nothing_done → new.contract_fired ≡ none_fired → new.places.items ≡ map begun old.places.items → new.eventful ≡ false → ((h : History) → LatchesStand old.latches deed h → LatchesStand new.latches deed (passing (nat_abs (point -ℤ present_point old.latches)) h)) → StandsFor old deed narrative n → IsPresent new deed start
  present_begun old new point here contract done fired places eventful goes stands = record {
    contract = contract ∙ stands.contract;
    contract_fired = λ kind. ap (λ f. has f kind) fired ∙ nothing_has_fired kind;
    contract_done = λ verb. ap (λ d. has_done d verb) done ∙ (nothing_is_done verb ∙ sym (none_acts verb _));
    places = λ i place is. place_was old.places.items stands.places i place (slice_get old.places.items i) refl (sym (slice_get-map begun old.places.items i) ∙ (ap (λ l. slice_get l i) (sym places) ∙ is));
    eventful = record {
      some = λ is. absurd (false_is_not (sym eventful ∙ is));
      none = λ _ event. refl;
    };
    latches = latches_begun old.latches new.latches point here stands.told goes;
    unset = λ target. refl;
  }
    where
      false_is_not : false ≡ true → ⊥
      false_is_not e = cc
