-- What is kept of a point, once it is settled, stands for the start of the next one.
use Rattle.std.proofs.Common.{◌≡◌, ℕ, suc, ℤ, pos, ◌+ℤ◌, Bool, true, false, List, length, Some, slice_get, refl, sym, ◌∙◌, ap}
use Rattle.sy_words.specs.declared.kind.Kind.{Kind}
use Rattle.sy_words.specs.declared.kind.Kind.TheVariants.{Exerted, Violated}
use Rattle.sy_core.specs.declared.kind.Target.{Target}
use Rattle.sy_core.specs.declared.kind.Target.TheVariants as T
use Rattle.sy_core.specs.declared.state.StateOf.{StateOf}
use Rattle.sy_core.specs.declared.event.Ev.TheVariants.{Inner}
use Rattle.sy_core.specs.declared.position.Position.{Position}
use Rattle.sy_core.specs.declared.proposition.Prop.{Prop}
use Rattle.sy_core.specs.declared.deed.Deed.{Deed}
use Rattle.sy_core.specs.declared.happening.What.{What}
use Rattle.sy_core.specs.declared.happening.Happening.{Happening}
use Rattle.sy_core.specs.Moments.{Moment, up_to, first_point}
use Rattle.sy_core.specs.Mentions.{InternalEvent}
use Rattle.sy_core.specs.Conditions.{events_of}
use Rattle.sy_core.specs.Orders.{IsAcyclic}
use Rattle.sy_core.specs.Prerequisites.{nodes, numbered_needs}
use Rattle.sy_core.specs.Propositions.{verdict_at}
use Rattle.sy_core.specs.Chronicle.{at_point, assuming, first_state, states_next, chronicle, state_at, moment_at}
use Rattle.sy_quiet.specs.Histories.{History, moments, history_at}
use Rattle.sy_quiet.specs.Evaluation.{targets_of, with_events, with_states}
use Rattle.sy_quiet.specs.KnownWakes.{is_eventful}
use Rattle.sy_quiet.proofs.States.{last_states}
use Rattle.sy_quiet.proofs.Told.{events_told}
use Rattle.sy_quiet.proofs.PointLaw.{setting_keeps, moment_is, point_goes_on}
use Rattle.sy_quiet.proofs.NextWake.{none_of_all}
use Rattle.sy_quiet.proofs.WakeLaw.{idle}
use Rattle.sy_present.specs.declared.place.Place.{Place}
use Rattle.sy_present.specs.declared.present.Present.{Present}
use Rattle.sy_present.specs.Standing.{IsMadeFor, IsKeptAt, IsEvaluated, has_at}
use Rattle.sy_present.specs.Machine.Told.{IsEventful, IsSettled}
use Rattle.sy_present.proofs.Forms.{place_there}

module _ (deed : Deed) (acyclic : IsAcyclic (numbered_needs deed) (length (nodes deed))) (narrative : List Happening) (n : ℕ) (happenings : List What) (same : assuming (deed.start +ℤ pos n) happenings ≡ assuming (deed.start +ℤ pos n) (at_point narrative (deed.start +ℤ pos n))) where
  abbrev here : ℤ
  here = deed.start +ℤ pos n

  abbrev states : Target → StateOf
  states = state_at deed narrative n

  abbrev past : List Moment
  past = chronicle deed narrative n

  abbrev moment : Moment
  moment = moment_at deed narrative n

  -- the history with all events of the point
  abbrev ready : History
  ready = with_events deed happenings (history_at deed narrative n)

  -- and with the states after it
  abbrev set : History
  set = with_states deed ready

  whole : ready ≡ record { before = past; now = moment; next = states }
  whole =
      events_told deed here happenings states states past acyclic
      ∙ (λ j. record { before = past; now = moment_is deed acyclic narrative n happenings same j; next = states })

  now_is : ready.now ≡ moment
  now_is = ap (λ h. h.now) whole

  pub ready_here : ready.now.point ≡ here
  ready_here = ap (λ m. m.point) now_is

  before_is : ready.before ≡ past
  before_is = ap (λ h. h.before) whole

  kept : set ≡ record { before = ready.before; now = ready.now; next = set.next }
  kept = setting_keeps (states_next deed ready.now) (targets_of deed) ready

  moments_are : moments ready ≡ chronicle deed narrative (suc n)
  moments_are = λ j. up_to (now_is j) (before_is j)

  state_is : (x : Target) → states_next deed ready.now x ≡ state_at deed narrative (suc n) x
  state_is x = ap (λ m. states_next deed m x) now_is ∙ sym (ap (λ s. s x) (last_states deed first_state past moment))

  verdict_is : (post : Prop) → verdict_at deed.unit set.now set.before post ≡ verdict_at deed.unit moment past post
  verdict_is post =
      ap (λ h. verdict_at deed.unit h.now h.before post) kept
      ∙ (λ j. verdict_at deed.unit (now_is j) (before_is j) post)

  -- something internal happened at the point where something was seen
  eventful_is : (eventful : Bool) → IsEventful eventful ready → eventful ≡ is_eventful deed narrative n
  eventful_is true said = at (is_eventful deed narrative n) refl
    where
      at : (b : Bool) → is_eventful deed narrative n ≡ b → true ≡ b
      at true e = refl
      at false e =
          let s = said.some refl in
          let yes : moment.seen (Inner s.0.0 s.0.1) ≡ true = sym (ap (λ m. m.seen (Inner s.0.0 s.0.1)) now_is) ∙ s.1 in
          let no = idle deed acyclic narrative n e s.0 in
          cc
  eventful_is false said =
      sym (none_of_all (λ (event : InternalEvent). moment.seen (Inner event.0 event.1)) (events_of deed) (λ event. sym (ap (λ m. m.seen (Inner event.0 event.1)) now_is) ∙ said.none refl event))

  module _ (present : Present) (settled : IsSettled present deed ready) where
    kept_at : (i : ℕ) (place : Place) → slice_get present.places.items i ≡ Some place → IsKeptAt place deed narrative (suc n) i
    kept_at i place is =
        let at = settled.places i place is in
        record {
          state = at.state ∙ state_is (T.Position i);
          violated = at.violated ∙ ap (first_point (Inner Violated (T.Position i))) moments_are;
          exerted = at.exerted ∙ ap (first_point (Inner Exerted (T.Position i))) moments_are;
        }

    happened_at : IsMadeFor present deed → (kind : Kind) (i : ℕ) (p : Position) → slice_get deed.positions i ≡ Some p → has_at (slice_get present.places.items i) kind ≡ moment.seen (Inner kind (T.Position i))
    happened_at made kind i p is =
        let there = place_there present deed made i p is in
        ap (λ o. has_at o kind) there.1
        ∙ ((settled.places i there.0 there.1).fired kind
        ∙ ap (λ m. m.seen (Inner kind (T.Position i))) now_is)

    pub settled_is_evaluated : IsMadeFor present deed → IsEvaluated present present.eventful deed narrative n
    settled_is_evaluated made = record {
      stands = record {
        contract = settled.contract ∙ state_is T.Contract;
        places = kept_at;
        told = record {
          history = set;
          stand = settled.latches;
          behind = 1;
          reach = point_goes_on deed acyclic narrative n happenings same;
          verdicts = λ i post is. verdict_is post;
        };
      };
      eventful = eventful_is present.eventful settled.eventful;
      happened = happened_at made;
    }
