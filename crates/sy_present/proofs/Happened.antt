-- What is kept of the present point, after one more internal event.
use Rattle.std.proofs.Common.{◌≡◌, ◌≢◌, IsTrue, ℕ, zero, suc, ◌<◌, ◌≤◌, ◌==◌, Bool, true, false, ◌&&◌, ◌||◌, List, [], ◌∷◌, map, length, get_or, slice_set, Some, slice_get, refl, sym, ◌∙◌, ap, subst, arith}
use Rattle.std.proofs.Math.Bool.{or-true, and-true}
use Rattle.std.proofs.lemmas.Option.{slice_get_within}
use Rattle.std.proofs.lemmas.Bool.Decides.{Decides-eqb}
use Rattle.sy_words.specs.declared.kind.Kind.{Kind}
use Rattle.sy_words.specs.declared.verb.Verb.{Verb}
use Rattle.sy_core.specs.declared.kind.Target.{Target}
use Rattle.sy_core.specs.declared.kind.Target.TheVariants as T
use Rattle.sy_core.specs.declared.event.Ev.TheVariants.{Inner}
use Rattle.sy_core.specs.declared.position.Goal.TheVariants as G
use Rattle.sy_core.specs.declared.deed.Deed.{Deed}
use Rattle.sy_core.specs.Conditions.{verb_number, is_act, by}
use Rattle.sy_core.proofs.Listing.{or_false, not_same}
use Rattle.sy_machines.specs.Fired.{has}
use Rattle.sy_machines.specs.declared.fired.Fired.{Fired}
use Rattle.sy_passes.specs.Passes.{kind_number, same_event}
use Rattle.sy_passes.proofs.SameEvents.{same_events, event_itself, target_itself}
use Rattle.sy_quiet.specs.Histories.{History, firing}
use Rattle.sy_prop.specs.Standing.{StandsFor as LatchesStand}
use Rattle.sy_present.specs.declared.done.Done.{Done}
use Rattle.sy_present.specs.declared.place.Place.{Place}
use Rattle.sy_present.specs.declared.present.Present.{Present}
use Rattle.sy_present.specs.Machine.Told.{has_done, IsPresent, IsPlaceAt}
use Rattle.sy_present.specs.Machine.Happened.{is_event_of, HasMore, HaveMore}
use Rattle.sy_present.proofs.Acts.{and_false}

-- the kinds that happened are those of before and the one that is set
pub fired_more : (x : Target) (kind other : Kind) (old new : Fired) → IsTrue (has new kind) → ((k : Kind) → k ≢ kind → has new k ≡ has old k) → has new other ≡ (has old other || is_event_of kind x x other)
fired_more x kind other old new set others = at (same_event (kind, x) (other, x)) refl
  where
    no_longer : kind ≡ other → same_event (kind, x) (other, x) ≡ false → ⊥
    no_longer q e = let same = ap (λ k. same_event (kind, x) (k, x)) q in let itself = event_itself (kind, x) in cc

    at : (b : Bool) → same_event (kind, x) (other, x) ≡ b → has new other ≡ (has old other || is_event_of kind x x other)
    at true e =
        let same = ap (λ event. event.0) (same_events (kind, x) (other, x) e) in
        (ap (has new) (sym same) ∙ set) ∙ sym (ap (λ b. has old other || b) e ∙ or-true (has old other))
    at false e = others other (λ q. no_longer (sym q) e) ∙ sym (ap (λ b. has old other || b) e ∙ or_false (has old other))

-- an event of a position is none of another's
pub event_elsewhere : (kind k : Kind) (i j : ℕ) → j ≢ i → is_event_of kind (T.Position i) (T.Position j) k ≡ false
event_elsewhere kind k i j apart =
    let other : (i == j) ≡ false = not_same i j (λ e. apart (sym e)) in
    ap (λ b. (kind_number kind == kind_number k) && b) other ∙ and_false (kind_number kind == kind_number k)

-- an event of the contract is none of a position's
pub contract_apart : (kind k : Kind) (i : ℕ) → is_event_of kind T.Contract (T.Position i) k ≡ false
contract_apart kind k i = and_false (kind_number kind == kind_number k)

-- and the other way around
pub position_apart : (kind k : Kind) (i : ℕ) → is_event_of kind (T.Position i) T.Contract k ≡ false
position_apart kind k i = and_false (kind_number kind == kind_number k)

-- what is done to a position isn't done to another
pub act_elsewhere : (verb v : Verb) (i j : ℕ) → j ≢ i → is_act v (T.Position j) (G.Act (record { verb = verb; target = T.Position i })) ≡ false
act_elsewhere verb v i j apart =
    let other : (i == j) ≡ false = not_same i j (λ e. apart (sym e)) in
    ap (λ b. (verb_number verb == verb_number v) && b) other ∙ and_false (verb_number verb == verb_number v)

act_here : (verb v : Verb) (i : ℕ) → is_act v (T.Position i) (G.Act (record { verb = verb; target = T.Position i })) ≡ (verb_number verb == verb_number v)
act_here verb v i = ap (λ b. (verb_number verb == verb_number v) && b) (target_itself (T.Position i)) ∙ and-true (verb_number verb == verb_number v)

-- the internal event is one more of the place's
pub fired_here : (kind : Kind) (i : ℕ) (place : Place) (fired : Fired) → IsTrue (has fired kind) → ((k : Kind) → k ≢ kind → has fired k ≡ has place.fired k) → HasMore (is_event_of kind (T.Position i) (T.Position i)) (λ _. false) place (record { form = place.form; state = place.state; violated = place.violated; exerted = place.exerted; asked = place.asked; done = place.done; fired = fired })
fired_here kind i place fired set others = record {
  form = refl;
  state = refl;
  asked = refl;
  violated = refl;
  exerted = refl;
  fired = λ k. fired_more (T.Position i) kind k place.fired fired set others;
  done = λ v. sym (or_false (has_done place.done v));
}

-- what a power does is one more that is done to the place
pub done_here : (verb : Verb) (i : ℕ) (place : Place) (done : Done) → ((v : Verb) → has_done done v ≡ (has_done place.done v || (verb_number verb == verb_number v))) → HasMore (λ _. false) (λ v. is_act v (T.Position i) (G.Act (record { verb = verb; target = T.Position i }))) place (record { form = place.form; state = place.state; violated = place.violated; exerted = place.exerted; asked = place.asked; done = done; fired = place.fired })
done_here verb i place done added = record {
  form = refl;
  state = refl;
  asked = refl;
  violated = refl;
  exerted = refl;
  fired = λ k. sym (or_false (has place.fired k));
  done = λ v. added v ∙ ap (λ b. has_done place.done v || b) (sym (act_here verb v i));
}

-- nothing is added
pub stays : (b c : Bool) → c ≡ false → b ≡ (b || c)
stays b c e = sym (ap (λ x. b || x) e ∙ or_false b)

-- a place to which nothing more happens
pub no_more : (fires : Kind → Bool) (does : Verb → Bool) (place : Place) → ((k : Kind) → fires k ≡ false) → ((v : Verb) → does v ≡ false) → HasMore fires does place place
no_more fires does place no_fire no_act = record {
  form = refl;
  state = refl;
  asked = refl;
  violated = refl;
  exerted = refl;
  fired = λ k. stays (has place.fired k) (fires k) (no_fire k);
  done = λ v. stays (has_done place.done v) (does v) (no_act v);
}

-- one item is written over
set_forms : (places : List Place) (i : ℕ) (old new : Place) → i < length places → old ≡ get_or places i old → new.form ≡ old.form → map (λ (place : Place). place.form) (slice_set places i new) ≡ map (λ (place : Place). place.form) places
set_forms [] i old new lt is same = absurd (omega arith)
set_forms (p ∷ ps) zero old new lt is same = let form : new.form ≡ p.form = same ∙ ap (λ (q : Place). q.form) is in λ j. form j ∷ map (λ (place : Place). place.form) ps
set_forms (p ∷ ps) (suc i) old new lt is same = ap (λ fs. p.form ∷ fs) (set_forms ps i old new (omega arith) is same)

set_there : (places : List Place) (i : ℕ) (new place : Place) → slice_get (slice_set places i new) i ≡ Some place → place ≡ new
set_there [] i new place is = cc
set_there (p ∷ ps) zero new place is = cc
set_there (p ∷ ps) (suc i) new place is = set_there ps i new place is

set_elsewhere : (places : List Place) (i j : ℕ) (new : Place) → j ≢ i → slice_get (slice_set places i new) j ≡ slice_get places j
set_elsewhere [] i j new apart = refl
set_elsewhere (p ∷ ps) zero zero new apart = absurd (apart refl)
set_elsewhere (p ∷ ps) zero (suc j) new apart = refl
set_elsewhere (p ∷ ps) (suc i) zero new apart = refl
set_elsewhere (p ∷ ps) (suc i) (suc j) new apart = set_elsewhere ps i j new (λ e. apart (ap suc e))

old_there : (places : List Place) (i : ℕ) (old : Place) → i < length places → old ≡ get_or places i old → slice_get places i ≡ Some old
old_there [] i old lt is = absurd (omega arith)
old_there (p ∷ ps) zero old lt is = ap Some (sym is)
old_there (p ∷ ps) (suc i) old lt is = old_there ps i old (omega arith) is

module _ (fires : Target → Kind → Bool) (does : Target → Verb → Bool) where
  -- nothing more happens to any place
  pub none_more : (places : List Place) → ((i : ℕ) (place : Place) → slice_get places i ≡ Some place → ((k : Kind) → fires (T.Position i) k ≡ false) × ((v : Verb) → does (T.Position i) v ≡ false)) → HaveMore fires does places places
  none_more places never = record {
    forms = refl;
    places = λ i place is. let no = never i place is in (place, is, no_more (fires (T.Position i)) (does (T.Position i)) place no.0 no.1);
  }

  -- there is no place to which more happens
  pub none_there : (places : List Place) (i : ℕ) → length places ≤ i → ((j : ℕ) → j ≢ i → (k : Kind) → fires (T.Position j) k ≡ false) → ((j : ℕ) → j ≢ i → (v : Verb) → does (T.Position j) v ≡ false) → HaveMore fires does places places
  none_there places i le no_fire no_act =
      none_more places (λ j place there. let apart = beyond i le j place there in (no_fire j apart, no_act j apart))
    where
      beyond : (i : ℕ) → length places ≤ i → (j : ℕ) (place : Place) → slice_get places j ≡ Some place → j ≢ i
      beyond i le j place there e = let lt = slice_get_within places j place there in absurd (omega (arith, le, lt, e))

  -- more happens to one place alone
  pub one_more : (places : List Place) (i : ℕ) (old new : Place) → i < length places → old ≡ get_or places i old → ((j : ℕ) → j ≢ i → (k : Kind) → fires (T.Position j) k ≡ false) → ((j : ℕ) → j ≢ i → (v : Verb) → does (T.Position j) v ≡ false) → HasMore (fires (T.Position i)) (does (T.Position i)) old new → HaveMore fires does places (slice_set places i new)
  one_more places i old new lt is no_fire no_act more = record {
    forms = set_forms places i old new lt is more.form;
    places = λ j place there. at j place there (j == i) refl;
  }
    where
      at : (j : ℕ) (place : Place) → slice_get (slice_set places i new) j ≡ Some place → (b : Bool) → (j == i) ≡ b → (before : Place) × (slice_get places j ≡ Some before) × HasMore (fires (T.Position j)) (does (T.Position j)) before place
      at j place there true e =
          let same : j ≡ i = (Decides-eqb j i).0 e in
          let here = subst (λ n. slice_get (slice_set places i new) n ≡ Some place) same there in
          let placed : place ≡ new = set_there places i new place here in
          let was : slice_get places j ≡ Some old = subst (λ n. slice_get places n ≡ Some old) (sym same) (old_there places i old lt is) in
          let kept : HasMore (fires (T.Position j)) (does (T.Position j)) old new = subst (λ n. HasMore (fires (T.Position n)) (does (T.Position n)) old new) (sym same) more in
          (old, was, subst (HasMore (fires (T.Position j)) (does (T.Position j)) old) (sym placed) kept)
      at j place there false e =
          let apart : j ≢ i = λ q. let t = (Decides-eqb j i).1 q in cc in
          (place, sym (set_elsewhere places i j new apart) ∙ there, no_more (fires (T.Position j)) (does (T.Position j)) place (no_fire j apart) (no_act j apart))

  -- first it happens, then it does what it does
  pub fired_and_done : (a b c : List Place) → HaveMore fires (λ _ _. false) a b → HaveMore (λ _ _. false) does b c → HaveMore fires does a c
  fired_and_done a b c first then = record {
    forms = then.forms ∙ first.forms;
    places = λ i place is.
        let middle = then.places i place is in
        let start = first.places i middle.0 middle.1 in
        (start.0, start.1, both i start.0 middle.0 place start.2 middle.2);
  }
    where
      both : (i : ℕ) (p q r : Place) → HasMore (fires (T.Position i)) (λ _. false) p q → HasMore (λ _. false) (does (T.Position i)) q r → HasMore (fires (T.Position i)) (does (T.Position i)) p r
      both i p q r f d = record {
        form = d.form ∙ f.form;
        state = d.state ∙ f.state;
        asked = d.asked ∙ f.asked;
        violated = d.violated ∙ f.violated;
        exerted = d.exerted ∙ f.exerted;
        fired = λ k. d.fired k ∙ (or_false (has q.fired k) ∙ f.fired k);
        done = λ v. d.done v ∙ ap (λ x. x || does (T.Position i) v) (f.done v ∙ or_false (has_done p.done v));
      }

-- what is kept of the present point, after one more internal event and what it does
pub present_more : (deed : Deed) (h : History) (kind : Kind) (target : Target) (does : Target → Verb → Bool) (old new : Present) → ((x : Target) (v : Verb) → by deed (firing kind target h).now v x ≡ (by deed h.now v x || does x v)) → new.contract ≡ old.contract → ((k : Kind) → has new.contract_fired k ≡ (has old.contract_fired k || is_event_of kind target T.Contract k)) → ((v : Verb) → has_done new.contract_done v ≡ (has_done old.contract_done v || does T.Contract v)) → HaveMore (is_event_of kind target) does old.places.items new.places.items → new.eventful ≡ true → LatchesStand new.latches deed (firing kind target h) → IsPresent old deed h → IsPresent new deed (firing kind target h)
present_more deed h kind target does old new acts contract fired done more eventful latches present = record {
  contract = contract ∙ present.contract;
  contract_fired = λ k. fired k ∙ ap (λ b. b || is_event_of kind target T.Contract k) (present.contract_fired k);
  contract_done = λ v. done v ∙ (ap (λ b. b || does T.Contract v) (present.contract_done v) ∙ sym (acts T.Contract v));
  places = λ i place is. let was = more.places i place is in at i was.0 place was.2 (present.places i was.0 was.1);
  eventful = record {
    some = λ _. ((kind, target), ap (λ b. h.now.seen (Inner kind target) || b) (event_itself (kind, target)) ∙ or-true (h.now.seen (Inner kind target)));
    none = λ no. let e = eventful in absurd (never e no);
  };
  latches = latches;
  unset = present.unset;
}
  where
    never : new.eventful ≡ true → new.eventful ≡ false → ⊥
    never is not = cc

    at : (i : ℕ) (p q : Place) → HasMore (is_event_of kind target (T.Position i)) (does (T.Position i)) p q → IsPlaceAt p deed h i → IsPlaceAt q deed (firing kind target h) i
    at i p q m place = record {
      state = m.state ∙ place.state;
      asked = m.asked ∙ (place.asked ∙ sym (or_false (h.now.asked i)));
      fired = λ k. m.fired k ∙ ap (λ b. b || is_event_of kind target (T.Position i) k) (place.fired k);
      done = λ v. m.done v ∙ (ap (λ b. b || does (T.Position i) v) (place.done v) ∙ sym (acts (T.Position i) v));
      violated = m.violated ∙ place.violated;
      exerted = m.exerted ∙ place.exerted;
    }
