-- What the narrative has at a point changes nothing internal.
use Rattle.std.proofs.Common.{zero, suc, ◌+◌, ◌<◌, ◌≤◌, [], ◌∷◌, ◌++◌, map, length, take, get_or, arith, ◌≡◌, ℕ, Bool, true, false, ◌||◌, ◌==◌, List, inl, inr, Some, slice_get, refl, sym, ◌∙◌, ap, subst}
use Rattle.std.proofs.Math.Path.{fun_ext}
use Rattle.std.proofs.lemmas.Bool.Decides.{Decides-eqb}
use Rattle.std.proofs.lemmas.List.{map_more}
use Rattle.std.specs.List.{list_any}
use Rattle.sy_words.specs.declared.kind.Kind.{Kind}
use Rattle.sy_words.specs.declared.kind.Kind.TheVariants.{Exerted}
use Rattle.sy_words.specs.declared.verb.Verb.{Verb}
use Rattle.sy_core.specs.declared.kind.Target.{Target}
use Rattle.sy_core.specs.declared.kind.Target.TheVariants as T
use Rattle.sy_core.specs.declared.event.Ev.TheVariants.{Inner}
use Rattle.sy_core.specs.declared.deed.Deed.{Deed}
use Rattle.sy_core.specs.declared.happening.Happening.{Happening}
use Rattle.sy_core.specs.declared.happening.What.{What}
use Rattle.sy_core.specs.declared.happening.What.TheVariants as W
use Rattle.sy_core.specs.Conditions.{by, powers_to}
use Rattle.sy_core.specs.Chronicle.{exerts}
use Rattle.sy_core.proofs.Listing.{or_false, not_same}
use Rattle.sy_machines.specs.Fired.{has}
use Rattle.sy_quiet.specs.Histories.{History, seeing}
use Rattle.sy_quiet.specs.Evaluation.{seeing_all}
use Rattle.sy_quiet.proofs.Told.{inner_unmatched}
use Rattle.sy_prop.specs.Standing.{StandsFor as LatchesStand}
use Rattle.sy_present.specs.declared.place.Place.{Place}
use Rattle.sy_present.specs.declared.present.Present.{Present}
use Rattle.sy_present.specs.Machine.Told.{has_done, IsPlaceAt, IsEventful, IsPresent}
use Rattle.sy_present.specs.Machine.Asked.{asking}
use Rattle.sy_present.proofs.Asked.{Stood, asking_at}

or_true : (b : Bool) → (b || true) ≡ true
or_true true = refl
or_true false = refl

module _ (what : What) (h : History) where
  inner_same : (kind : Kind) (x : Target) → h.now.seen (Inner kind x) ≡ (seeing what h).now.seen (Inner kind x)
  inner_same kind x =
      let e = inner_unmatched kind x what in
      sym ((λ j. h.now.seen (Inner kind x) || e j) ∙ or_false (h.now.seen (Inner kind x)))

  by_same : (deed : Deed) (verb : Verb) (x : Target) → by deed h.now verb x ≡ by deed (seeing what h).now verb x
  by_same deed verb x = ap (λ test. list_any test (powers_to deed verb x)) (fun_ext (λ n. inner_same Exerted (T.Position n.0)))

  eventful_same : (eventful : Bool) → IsEventful eventful h → IsEventful eventful (seeing what h)
  eventful_same eventful e = record {
    some = λ is. let found = e.some is in (found.0, sym (inner_same found.0.0 found.0.1) ∙ found.1);
    none = λ is event. sym (inner_same event.0 event.1) ∙ e.none is event;
  }

  -- a place that is exerted where the narrative has its exertion
  place_seen : (deed : Deed) (i : ℕ) (before place : Place) → place.state ≡ before.state → place.fired ≡ before.fired → place.done ≡ before.done → place.violated ≡ before.violated → place.exerted ≡ before.exerted → place.asked ≡ (h.now.asked i || exerts i what) → IsPlaceAt before deed h i → IsPlaceAt place deed (seeing what h) i
  place_seen deed i before place state fired done violated exerted is_asked at = record {
    state = state ∙ at.state;
    asked = is_asked;
    fired = λ kind. ap (λ f. has f kind) fired ∙ (at.fired kind ∙ inner_same kind (T.Position i));
    done = λ verb. ap (λ d. has_done d verb) done ∙ (at.done verb ∙ by_same deed verb (T.Position i));
    violated = violated ∙ at.violated;
    exerted = exerted ∙ at.exerted;
  }

  pub present_seen : (old new : Present) (deed : Deed) → new.contract ≡ old.contract → new.contract_fired ≡ old.contract_fired → new.contract_done ≡ old.contract_done → new.eventful ≡ old.eventful → LatchesStand new.latches deed (seeing what h) → ((i : ℕ) (place : Place) → slice_get new.places.items i ≡ Some place → IsPlaceAt place deed (seeing what h) i) → IsPresent old deed h → IsPresent new deed (seeing what h)
  present_seen old new deed contract fired done eventful latches places present = record {
    contract = contract ∙ present.contract;
    contract_fired = λ kind. ap (λ f. has f kind) fired ∙ (present.contract_fired kind ∙ inner_same kind T.Contract);
    contract_done = λ verb. ap (λ d. has_done d verb) done ∙ (present.contract_done verb ∙ by_same deed verb T.Contract);
    places = places;
    eventful = subst (λ b. IsEventful b (seeing what h)) (sym eventful) (eventful_same old.eventful present.eventful);
    latches = latches;
    unset = present.unset;
  }

-- the places, where the narrative exerts a position
pub places_asked : (power : ℕ) (what : What) → what ≡ W.Exert power → (deed : Deed) (h : History) (before places : List Place) → places ≡ asking power before → ((i : ℕ) (place : Place) → slice_get before i ≡ Some place → IsPlaceAt place deed h i) → (i : ℕ) (place : Place) → slice_get places i ≡ Some place → IsPlaceAt place deed (seeing what h) i
places_asked power what exertion deed h before places made at i place is =
    by_place (asking_at power before i place (ap (λ l. slice_get l i) (sym made) ∙ is))
  where
    exerts_is : exerts i what ≡ (i == power)
    exerts_is = ap (exerts i) exertion

    by_place : Stood power before i place → IsPlaceAt place deed (seeing what h) i
    by_place (p, there, inl (e, same)) =
        let here = (Decides-eqb i power).1 e in
        let now : place.asked ≡ (h.now.asked i || exerts i what) = ap (λ (q : Place). q.asked) same ∙ sym ((λ j. h.now.asked i || (exerts_is ∙ here) j) ∙ or_true (h.now.asked i)) in
        place_seen what h deed i p place (ap (λ (q : Place). q.state) same) (ap (λ (q : Place). q.fired) same) (ap (λ (q : Place). q.done) same) (ap (λ (q : Place). q.violated) same) (ap (λ (q : Place). q.exerted) same) now (at i p there)
    by_place (p, there, inr (ne, same)) =
        let here = not_same i power ne in
        let now : place.asked ≡ (h.now.asked i || exerts i what) = (ap (λ (q : Place). q.asked) same ∙ (at i p there).asked) ∙ sym ((λ j. h.now.asked i || (exerts_is ∙ here) j) ∙ or_false (h.now.asked i)) in
        place_seen what h deed i p place (ap (λ (q : Place). q.state) same) (ap (λ (q : Place). q.fired) same) (ap (λ (q : Place). q.done) same) (ap (λ (q : Place). q.violated) same) (ap (λ (q : Place). q.exerted) same) now (at i p there)

-- and where it has something else
pub places_stay : (what : What) → ((i : ℕ) → exerts i what ≡ false) → (deed : Deed) (h : History) (places : List Place) → ((i : ℕ) (place : Place) → slice_get places i ≡ Some place → IsPlaceAt place deed h i) → (i : ℕ) (place : Place) → slice_get places i ≡ Some place → IsPlaceAt place deed (seeing what h) i
places_stay what none deed h places at i place is =
    let now : place.asked ≡ (h.now.asked i || exerts i what) = (at i place is).asked ∙ sym ((λ j. h.now.asked i || none i j) ∙ or_false (h.now.asked i)) in
    place_seen what h deed i place place refl refl refl refl refl now (at i place is)

seen_more : (whats : List What) (what : What) (h : History) → seeing_all (whats ++ what ∷ []) h ≡ seeing what (seeing_all whats h)
seen_more [] what h = refl
seen_more (w ∷ ws) what h = seen_more ws what (seeing w h)

-- what some happenings are
abbrev pub whats_of : List Happening → List What
whats_of happenings = map (λ happening. happening.what) happenings

pub none_seen : (at : List Happening) (h : History) → seeing_all (whats_of (take 0 at)) h ≡ h
none_seen [] h = refl
none_seen (a ∷ at) h = refl

pub one_seen : (at : List Happening) (i : ℕ) (happening : Happening) → i < length at → happening ≡ get_or at i happening → (h : History) → seeing_all (whats_of (take (i + 1) at)) h ≡ seeing happening.what (seeing_all (whats_of (take i at)) h)
one_seen at i happening lt is h =
    let more = map_more (λ (a : Happening). a.what) at i happening lt in
    ap (λ whats. seeing_all whats h) more
    ∙ (seen_more (whats_of (take i at)) (get_or at i happening).what h
    ∙ ap (λ (a : Happening). seeing a.what (seeing_all (whats_of (take i at)) h)) (sym is))

all_of : (at : List Happening) (i : ℕ) → length at ≤ i → take i at ≡ at
all_of [] zero le = refl
all_of [] (suc i) le = refl
all_of (a ∷ at) zero le = absurd (omega arith)
all_of (a ∷ at) (suc i) le = ap (λ l. a ∷ l) (all_of at i (omega arith))

pub all_seen : (at : List Happening) (i : ℕ) → length at ≤ i → (h : History) → seeing_all (whats_of (take i at)) h ≡ seeing_all (whats_of at) h
all_seen at i le h = ap (λ l. seeing_all (whats_of l) h) (all_of at i le)
