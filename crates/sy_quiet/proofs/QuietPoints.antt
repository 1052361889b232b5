-- After a point at which nothing internal happened, nothing does at the next one, where the narrative has nothing there and no date falls on it.
use Rattle.std.proofs.Common.{◌≡◌, ℕ, ℤ, pos, ◌+ℤ◌, Bool, true, false, not, ◌&&◌, ◌||◌, List, [], Option, Some, None, slice_get, refl, sym, ◌∙◌}
use Rattle.sy_words.specs.declared.kind.Kind.{Kind}
use Rattle.sy_words.specs.declared.kind.Kind.TheVariants.{Exerted, Triggered, Activated, Resumed, Suspended, Fulfilled, Violated, Expired, Discharged, Terminated, Completed}
use Rattle.sy_words.specs.declared.verb.Verb.TheVariants as Verbs
use Rattle.sy_core.specs.declared.kind.Target.{Target}
use Rattle.sy_core.specs.declared.kind.Target.TheVariants as T
use Rattle.sy_core.specs.declared.state.StateOf.{StateOf}
use Rattle.sy_core.specs.declared.state.StateOf.TheVariants as S
use Rattle.sy_core.specs.declared.event.Ev.{Ev}
use Rattle.sy_core.specs.declared.event.Ev.TheVariants.{Outer, Inner}
use Rattle.sy_core.specs.declared.proposition.Prop.{Prop}
use Rattle.sy_core.specs.declared.position.Goal.{Goal}
use Rattle.sy_core.specs.declared.position.Goal.TheVariants as G
use Rattle.sy_core.specs.declared.position.Position.{Position}
use Rattle.sy_core.specs.declared.deed.Deed.{Deed}
use Rattle.sy_core.specs.declared.happening.What.{What}
use Rattle.sy_core.specs.Rounds.{IsSettled}
use Rattle.sy_core.specs.Moments.{Moment, up_to}
use Rattle.sy_core.specs.Propositions.{verdict_at, is_true, is_false}
use Rattle.sy_core.specs.Mentions.{InternalEvent, dates_of, dates_of_duty, has_holds}
use Rattle.sy_core.specs.Conditions.{is_power, is_obligation, was, live, is_created, remains_in_force, by, duty_verdict, contract_fires, position_fires, fires_of}
use Rattle.sy_core.specs.Chronicle.{assuming, conditions, internal_events}
use Rattle.sy_core.specs.Dependence.{IsOrderOf}
use Rattle.sy_core.proofs.RoundsLaw.{only_rounds_settled}
use Rattle.sy_passes.specs.Passes.{nothing}
use Rattle.sy_quiet.proofs.Falling.{NoneFalls, NoneFallsFor}
use Rattle.sy_quiet.proofs.QuietVerdicts.{verdict_still}

not_asked : (a b c : Bool) → (((a && false) && b) && c) ≡ false
not_asked true b c = refl
not_asked false b c = refl

module _ (deed : Deed) (point next : ℤ) (after : next ≡ point +ℤ pos 1) (happenings : List What) (state : Target → StateOf) (before : List Moment) where
  abbrev past : Moment
  past = assuming point happenings state nothing

  abbrev now : Moment
  now = assuming next [] state nothing

  abbrev pasts : List Moment
  pasts = up_to past before

  unseen : (e : Ev) → now.seen e ≡ false
  unseen (Outer event guards) = refl
  unseen (Inner kind target) = refl

  pub verdict_stays : (p : Prop) → NoneFalls deed.unit next pasts (dates_of p) → verdict_at deed.unit now pasts p ≡ verdict_at deed.unit past before p
  verdict_stays = verdict_still deed.unit before past now after unseen refl

  duty_stays : (goal : Goal) → NoneFalls deed.unit next pasts (dates_of_duty goal) → duty_verdict deed.unit now pasts goal ≡ duty_verdict deed.unit past before goal
  duty_stays (G.Duty consequent) h = verdict_stays consequent h
  duty_stays (G.Act act) h = refl

  -- a row of the contract is as it was one point before
  contract_stays : (kind : Kind) → contract_fires deed now kind ≡ contract_fires deed past kind
  contract_stays Exerted = refl
  contract_stays Triggered = refl
  contract_stays Activated = refl
  contract_stays Resumed = refl
  contract_stays Suspended = refl
  contract_stays Fulfilled = refl
  contract_stays Violated = refl
  contract_stays Expired = refl
  contract_stays Discharged = refl
  contract_stays Terminated = refl
  contract_stays Completed = refl

  -- a row of a position is false, as it was one point before
  row_is_false : (i : ℕ) (p : Position) (kind : Kind) → NoneFallsFor deed.unit next pasts p → position_fires deed past before i p kind ≡ false → position_fires deed now pasts i p kind ≡ false
  row_is_false i p Exerted f h = not_asked (is_power p.form) _ _
  row_is_false i p Triggered f h =
      let v = verdict_stays p.trigger f.0 in
      (λ j. live past p.form && was past (T.Position i) S.Null && (is_true (v j) || by deed past Verbs.Triggers (T.Position i))) ∙ h
  row_is_false i p Activated f h =
      let v = verdict_stays p.antecedent f.1 in
      (λ j. live past p.form && is_created past (T.Position i) && is_true (v j)) ∙ h
  row_is_false i p Resumed f h = h
  row_is_false i p Suspended f h = h
  row_is_false i p Fulfilled f h =
      let v = duty_stays p.goal f.2 in
      (λ j. is_obligation p.form && remains_in_force past (T.Position i) p.form && is_true (v j)) ∙ h
  row_is_false i p Violated f h =
      let v = duty_stays p.goal f.2 in
      (λ j. is_obligation p.form && remains_in_force past (T.Position i) p.form && is_false (v j)) ∙ h
  row_is_false i p Expired f h =
      let v = verdict_stays p.antecedent f.1 in
      (λ j. live past p.form && is_created past (T.Position i) && not (has_holds p.antecedent) && is_false (v j)) ∙ h
  row_is_false i p Discharged f h = h
  row_is_false i p Terminated f h = h
  row_is_false i p Completed f h = refl

  false_of : (i : ℕ) (o : Option Position) (kind : Kind) → ((p : Position) → o ≡ Some p → NoneFallsFor deed.unit next pasts p) → fires_of deed past before i o kind ≡ false → fires_of deed now pasts i o kind ≡ false
  false_of i None kind f h = refl
  false_of i (Some p) kind f h = row_is_false i p kind (f p refl) h

  module _ (none_before : (e : InternalEvent) → conditions deed point happenings state before nothing e ≡ false) (none_falls : (i : ℕ) (p : Position) → slice_get deed.positions i ≡ Some p → NoneFallsFor deed.unit next pasts p) where
    -- the conditions leave the set without events as it is
    nothing_settled : IsSettled (conditions deed next [] state pasts) nothing
    nothing_settled event = at event.0 event.1
      where
        at : (kind : Kind) (x : Target) → conditions deed next [] state pasts nothing (kind, x) ≡ false
        at kind T.Contract = contract_stays kind ∙ none_before (kind, T.Contract)
        at kind (T.Position i) = false_of i (slice_get deed.positions i) kind (λ p e. none_falls i p e) (none_before (kind, T.Position i))

    pub nothing_happens : (order : List InternalEvent) → IsOrderOf deed order → (event : InternalEvent) → internal_events deed next [] state pasts event ≡ false
    nothing_happens order ordered event = sym (only_rounds_settled deed order ordered next [] state pasts nothing nothing_settled event)
