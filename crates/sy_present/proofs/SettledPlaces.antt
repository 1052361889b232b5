-- What is kept once the states after a point are set.
use Rattle.std.proofs.Common.{◌≡◌, ℕ, zero, suc, ◌+◌, ◌<◌, ◌≤◌, ℤ, Bool, true, false, if◌then◌else◌, List, [], ◌∷◌, ◌++◌, map, length, take, drop, get_or, Option, Some, None, slice_get, refl, sym, ◌∙◌, ap, subst, arith}
use Rattle.std.proofs.Math.Path.{fun_ext}
use Rattle.std.proofs.lemmas.List.{take_more, length-map}
use Rattle.std.proofs.lemmas.Option.{slice_get-map, slice_get-get_or}
use Rattle.std.specs.Option.{option_map}
use Rattle.std.specs.List.{enumerate_from}
use Rattle.std.proofs.lemmas.Bool.Decides.{Decides-eqb}
use Rattle.sy_words.specs.declared.kind.Kind.TheVariants.{Exerted, Violated}
use Rattle.sy_core.specs.declared.kind.Target.{Target}
use Rattle.sy_core.specs.declared.kind.Target.TheVariants as T
use Rattle.sy_core.specs.declared.state.StateOf.{StateOf}
use Rattle.sy_core.specs.declared.state.StateOf.TheVariants as S
use Rattle.sy_core.specs.declared.event.Ev.{Ev}
use Rattle.sy_core.specs.declared.event.Ev.TheVariants.{Inner}
use Rattle.sy_core.specs.declared.position.Position.{Position}
use Rattle.sy_core.specs.declared.deed.Deed.{Deed}
use Rattle.sy_core.specs.Mentions.{same_target}
use Rattle.sy_core.specs.Moments.{Moment, up_to, first_point}
use Rattle.sy_core.specs.States.{state_number, same_state, state_after, contract_after}
use Rattle.sy_core.specs.Conditions.{numbered}
use Rattle.sy_core.specs.Chronicle.{position_after, states_next}
use Rattle.sy_core.proofs.Listing.{not_same}
use Rattle.sy_passes.proofs.SameEvents.{same_targets}
use Rattle.sy_machines.specs.Fired.{has}
use Rattle.sy_quiet.specs.Histories.{History, setting}
use Rattle.sy_quiet.specs.Evaluation.{setting_all}
use Rattle.sy_prop.specs.declared.latches.Latches.{Latches}
use Rattle.sy_prop.specs.Standing.{StandsFor as LatchesStand}
use Rattle.sy_present.specs.declared.place.Place.{Place}
use Rattle.sy_present.specs.declared.present.Present.{Present}
use Rattle.sy_present.specs.Machine.Told.{IsPlaceAt, IsEventful, IsPresent, IsSettledAt, IsSettled}
use Rattle.sy_present.specs.Machine.Settled.{first_with, state_next, settled, setting_from}

-- the state with a number
state_by : ℕ → StateOf
state_by n = get_or (S.Null ∷ S.Create ∷ S.InEffect ∷ S.Suspension ∷ S.Fulfillment ∷ S.Violation ∷ S.Discharge ∷ S.SuccessfulTermination ∷ S.UnsuccessfulTermination ∷ S.Form ∷ []) n S.Form

state_back : (state : StateOf) → state_by (state_number state) ≡ state
unfolding state_by
state_back S.Null = refl
state_back S.Create = refl
state_back S.InEffect = refl
state_back S.Suspension = refl
state_back S.Fulfillment = refl
state_back S.Violation = refl
state_back S.Discharge = refl
state_back S.SuccessfulTermination = refl
state_back S.UnsuccessfulTermination = refl
state_back S.Form = refl

pub same_states : (a b : StateOf) → same_state a b ≡ true → a ≡ b
same_states a b e = sym (state_back a) ∙ (ap state_by ((Decides-eqb (state_number a) (state_number b)).0 e) ∙ state_back b)

-- a state that is the next one already is set to no effect
pub setting_same : (x : Target) (state : StateOf) (h : History) → h.next x ≡ state → setting x state h ≡ h
setting_same x state h is = λ j. record { before = h.before; now = h.now; next = fun_ext at j }
  where
    at : (y : Target) → (if same_target x y then state else h.next y) ≡ h.next y
    at y = by_test (same_target x y) refl
      where
        by_test : (b : Bool) → same_target x y ≡ b → (if same_target x y then state else h.next y) ≡ h.next y
        by_test true e = ap (λ b. if b then state else h.next y) e ∙ (sym is ∙ ap h.next (same_targets x y e))
        by_test false e = ap (λ b. if b then state else h.next y) e

-- the next states of these places' positions are those that they are in
abbrev pub AreUnset : List Place → History → Type 0
AreUnset places h = (i : ℕ) (place : Place) → slice_get places i ≡ Some place → h.next (T.Position i) ≡ place.state

-- states that are set of other positions change no later one
others_stay : (i : ℕ) (places : List Place) (h : History) (k : ℕ) → i + length places ≤ k → (setting_from i places h).next (T.Position k) ≡ h.next (T.Position k)
others_stay i [] h k le = refl
others_stay i (place ∷ places) h k le =
    let s = state_next place in
    others_stay (i + 1) places (setting (T.Position i) s h) k (omega (arith, le))
    ∙ ap (λ b. if b then s else h.next (T.Position k)) (not_same i k (λ e. omega (arith, le, e)))

set_more : (i : ℕ) (places : List Place) (place : Place) (h : History) → setting_from i (places ++ place ∷ []) h ≡ setting (T.Position (i + length places)) (state_next place) (setting_from i places h)
set_more i [] place h = let e : i ≡ i + 0 = omega arith in ap (λ k. setting (T.Position k) (state_next place) h) e
set_more i (p ∷ places) place h =
    let g = setting (T.Position i) (state_next p) h in
    let e : (i + 1) + length places ≡ i + suc (length places) = omega arith in
    set_more (i + 1) places place g ∙ ap (λ k. setting (T.Position k) (state_next place) (setting_from (i + 1) places g)) e

-- what isn't written yet
unwritten : (f : Place → Place) (init : List Place) (i : ℕ) (d : Place) → i < length init → get_or (map f (take i init) ++ drop i init) i d ≡ get_or init i d
unwritten f [] i d lt = absurd (omega arith)
unwritten f (p ∷ ps) zero d lt = refl
unwritten f (p ∷ ps) (suc i) d lt = unwritten f ps i d (omega arith)

taken_length : (init : List Place) (i : ℕ) → i ≤ length init → length (take i init) ≡ i
taken_length [] zero le = refl
taken_length [] (suc i) le = absurd (omega arith)
taken_length (p ∷ ps) zero le = refl
taken_length (p ∷ ps) (suc i) le = let e = taken_length ps i (omega arith) in omega (arith, e)

-- one position's state more is set
one_set : (init places : List Place) (f : Place → Place) (i : ℕ) (d : Place) → i < length init → places ≡ map f (take i init) ++ drop i init → (h : History) → AreUnset init h →
    ((setting_from 0 (take i init) h).next (T.Position i) ≡ (get_or places i d).state)
    × (setting_from 0 (take (i + 1) init) h ≡ setting (T.Position i) (state_next (get_or places i d)) (setting_from 0 (take i init) h))
one_set init places f i d lt made h unset =
    let there : get_or places i d ≡ get_or init i d = ap (λ l. get_or l i d) made ∙ unwritten f init i d lt in
    let found : slice_get init i ≡ Some (get_or init i d) = slice_get-get_or init i d lt in
    let long = taken_length init i (omega (arith, lt)) in
    let number : 0 + length (take i init) ≡ i = omega (arith, long) in (
      others_stay 0 (take i init) h i (omega (arith, long)) ∙ (unset i (get_or init i d) found ∙ ap (λ (p : Place). p.state) (sym there)),
      ap (λ l. setting_from 0 l h) (take_more init i d lt)
          ∙ (set_more 0 (take i init) (get_or init i d) h
          ∙ (λ j. setting (T.Position (number j)) (state_next (sym there j)) (setting_from 0 (take i init) h))),
    )

-- the latches take it
pub one_told : (deed : Deed) (before after : Latches) (init places : List Place) (f : Place → Place) (point : ℤ) (i number : ℕ) (d place : Place) → i < length init → number ≡ i → places ≡ map f (take i init) ++ drop i init → place ≡ settled point (get_or places i d) →
    ((g : History) → g.next (T.Position number) ≡ (get_or places i d).state → LatchesStand before deed g → LatchesStand after deed (setting (T.Position number) place.state g))
    → (h : History) → AreUnset init h → LatchesStand before deed (setting_from 0 (take i init) h) → LatchesStand after deed (setting_from 0 (take (i + 1) init) h)
one_told deed before after init places f point i number d place lt numbered_so made settled_so told h unset stands =
    let one = one_set init places f i d lt made h unset in
    let g = setting_from 0 (take i init) h in
    let next : g.next (T.Position number) ≡ (get_or places i d).state = ap (λ k. g.next (T.Position k)) numbered_so ∙ one.0 in
    let same : setting (T.Position number) place.state g ≡ setting_from 0 (take (i + 1) init) h = (λ j. setting (T.Position (numbered_so j)) (settled_so j).state g) ∙ sym one.1 in
    subst (LatchesStand after deed) same (told g next stands)

-- there are as many places as positions
pub as_many : (deed : Deed) (places : List Place) → map (λ (q : Place). q.form) places ≡ map (λ (p : Position). p.form) deed.positions → length places ≡ length deed.positions
as_many deed places forms = sym (length-map places (λ (q : Place). q.form)) ∙ (ap length forms ∙ length-map deed.positions (λ (p : Position). p.form))

-- a position's state after the point
module _ (deed : Deed) (h : History) where
  -- the position that is there has the form
  next_of : (i : ℕ) (place : Place) (found : Option Position) → option_map (λ (p : Position). p.form) found ≡ Some place.form → IsPlaceAt place deed h i → state_next place ≡ position_after h.now i found
  next_of i place None is at = cc
  next_of i place (Some p) is at =
      let form : place.form ≡ p.form = cc in
      let fired = fun_ext at.fired in
      λ j. state_after (form j) (fired j) (at.state j)

  next_is : (i : ℕ) (places : List Place) (place : Place) → map (λ (q : Place). q.form) places ≡ map (λ (p : Position). p.form) deed.positions → slice_get places i ≡ Some place → IsPlaceAt place deed h i → state_next place ≡ states_next deed h.now (T.Position i)
  next_is i places place forms is at =
      next_of i place (slice_get deed.positions i)
      (sym (slice_get-map (λ (p : Position). p.form) deed.positions i)
      ∙ (ap (λ l. slice_get l i) (sym forms)
      ∙ (slice_get-map (λ (q : Place). q.form) places i ∙ ap (option_map (λ (q : Place). q.form)) is))) at

  abbrev states : Target → StateOf
  states = states_next deed h.now

  -- the states of the positions of these places are set as those of as many positions are
  set_alike : {X : Type 0} (i : ℕ) (places : List Place) (items : List X) → length places ≡ length items → ((k : ℕ) (place : Place) → slice_get places k ≡ Some place → state_next place ≡ states (T.Position (i + k))) → (g : History) → setting_from i places g ≡ setting_all states (map (λ n. T.Position n.0) (enumerate_from i items)) g
  set_alike i [] [] long next g = refl
  set_alike i [] (x ∷ xs) long next g = absurd (omega (arith, long))
  set_alike i (p ∷ ps) [] long next g = absurd (omega (arith, long))
  set_alike i (p ∷ ps) (x ∷ xs) long next g =
      let e : i + 0 ≡ i = omega arith in
      let first : state_next p ≡ states (T.Position i) = next 0 p refl ∙ ap (λ k. states (T.Position k)) e in
      set_alike (i + 1) ps xs (omega (arith, long)) (λ k place is. next (suc k) place is ∙ (let f : i + suc k ≡ (i + 1) + k = omega arith in ap (λ k. states (T.Position k)) f)) (setting (T.Position i) (state_next p) g)
      ∙ ap (λ s. setting_all states (map (λ n. T.Position n.0) (enumerate_from (i + 1) xs)) (setting (T.Position i) s g)) first

  -- the first point, with one moment more
  first_more : (e : Ev) (before : List Moment) (here : Bool) → here ≡ h.now.seen e → first_with (first_point e before) here h.now.point ≡ first_point e (up_to h.now before)
  first_more e [] here is = ap (λ b. if b then Some h.now.point else None) is
  first_more e (m ∷ later) here is = at (m.seen e) (first_more e later here is)
    where
      at : (b : Bool) → first_with (first_point e later) here h.now.point ≡ first_point e (up_to h.now later) → first_with (if b then Some m.point else first_point e later) here h.now.point ≡ (if b then Some m.point else first_point e (up_to h.now later))
      at true more = refl
      at false more = more

  settled_at : (i : ℕ) (place : Place) (point : ℤ) → point ≡ h.now.point → state_next place ≡ states (T.Position i) → IsPlaceAt place deed h i → IsSettledAt (settled point place) deed h i
  settled_at i place point here next at = record {
    state = next;
    fired = at.fired;
    violated = (λ j. first_with (at.violated j) place.fired.violated (here j)) ∙ first_more (Inner Violated (T.Position i)) h.before place.fired.violated (at.fired Violated);
    exerted = (λ j. first_with (at.exerted j) place.fired.exerted (here j)) ∙ first_more (Inner Exerted (T.Position i)) h.before place.fired.exerted (at.fired Exerted);
  }

  settled_was : (places : List Place) (point : ℤ) → point ≡ h.now.point → map (λ (q : Place). q.form) places ≡ map (λ (p : Position). p.form) deed.positions → ((i : ℕ) (place : Place) → slice_get places i ≡ Some place → IsPlaceAt place deed h i) → (i : ℕ) (place : Place) (found : Option Place) → slice_get places i ≡ found → option_map (settled point) found ≡ Some place → IsSettledAt place deed h i
  settled_was places point here forms at i place None is same = cc
  settled_was places point here forms at i place (Some before) is same =
      let e : settled point before ≡ place = cc in
      subst (λ p. IsSettledAt p deed h i) e (settled_at i before point here (next_is i places before forms is (at i before is)) (at i before is))

  pub present_settled : (old new : Present) (latches : Latches) (point : ℤ) (state : StateOf) → point ≡ h.now.point → map (λ (q : Place). q.form) old.places.items ≡ map (λ (p : Position). p.form) deed.positions →
      state ≡ contract_after (has old.contract_fired) old.contract → new.contract ≡ state → new.places.items ≡ map (settled point) old.places.items → new.eventful ≡ old.eventful →
      ((g : History) → g.next T.Contract ≡ old.contract → LatchesStand old.latches deed g → LatchesStand latches deed (setting T.Contract state g)) →
      ((g : History) → AreUnset old.places.items g → LatchesStand latches deed g → LatchesStand new.latches deed (setting_from 0 old.places.items g)) →
      IsPresent old deed h → IsSettled new deed h
  present_settled old new latches point state here forms next contract places eventful told all_told present =
      let state_is : state ≡ states T.Contract = next ∙ (let fired = fun_ext present.contract_fired in λ j. contract_after (fired j) (present.contract j)) in
      let long = as_many deed old.places.items forms in
      let each : (k : ℕ) (place : Place) → slice_get old.places.items k ≡ Some place → state_next place ≡ states (T.Position (0 + k)) = λ k place is. next_is k old.places.items place forms is (present.places k place is) ∙ (let e : k ≡ 0 + k = omega arith in ap (λ i. states (T.Position i)) e) in
      let g = setting T.Contract state h in
      let first = told h (present.unset T.Contract ∙ sym present.contract) present.latches in
      let unset : AreUnset old.places.items g = λ i place is. present.unset (T.Position i) ∙ sym (present.places i place is).state in
      let all = all_told g unset first in
      let same = set_alike 0 old.places.items deed.positions long each g ∙ ap (λ s. setting_all states (map (λ n. T.Position n.0) (numbered deed)) (setting T.Contract s h)) state_is in
      record {
        contract = contract ∙ state_is;
        places = λ i place is. settled_was old.places.items point here forms present.places i place (slice_get old.places.items i) refl (sym (slice_get-map (settled point) old.places.items i) ∙ (ap (λ l. slice_get l i) (sym places) ∙ is));
        eventful = subst (λ b. IsEventful b h) (sym eventful) present.eventful;
        latches = subst (LatchesStand new.latches deed) same all;
      }

-- the places keep their forms
pub settled_forms : (point : ℤ) (places : List Place) → map (λ (place : Place). place.form) (map (settled point) places) ≡ map (λ (place : Place). place.form) places
settled_forms point [] = refl
settled_forms point (p ∷ ps) = ap (λ l. p.form ∷ l) (settled_forms point ps)

-- what holds of a list of places holds of an equal one
pub alike_unset : (deed : Deed) (places given : List Place) → given ≡ places → (before after : Latches) →
    ((g : History) → AreUnset given g → LatchesStand before deed g → LatchesStand after deed (setting_from 0 given g)) →
    (g : History) → AreUnset places g → LatchesStand before deed g → LatchesStand after deed (setting_from 0 places g)
alike_unset deed places given same before after told =
    subst (λ l. (g : History) → AreUnset l g → LatchesStand before deed g → LatchesStand after deed (setting_from 0 l g)) same told
