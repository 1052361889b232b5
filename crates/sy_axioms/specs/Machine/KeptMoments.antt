-- What a kept moment is by the definitions, and what one round makes of it.
use Rattle.std.specs.Prelude.{ℕ, ◌+◌, Bool, false, List, [], ◌∷◌, Option, Some, None, slice_get, unwrap_or}
use Rattle.sy_words.specs.declared.kind.Kind.{Kind}
use Rattle.sy_words.specs.declared.kind.Kind.TheVariants.{Exerted, Triggered, Activated, Resumed, Suspended, Fulfilled, Violated, Expired, Discharged, Terminated, Completed}
use Rattle.sy_core.specs.declared.kind.Target.{Target}
use Rattle.sy_core.specs.declared.kind.Target.TheVariants as T
use Rattle.sy_core.specs.declared.state.StateOf.{StateOf}
use Rattle.sy_core.specs.declared.state.StateOf.TheVariants as S
use Rattle.sy_core.specs.declared.position.Position.{Position}
use Rattle.sy_core.specs.declared.deed.Deed.{Deed}
use Rattle.sy_core.specs.Moments.{Moment}
use Rattle.sy_core.specs.States.{contract_after}
use Rattle.sy_core.specs.Conditions.{next_state, contract_fires, position_fires}
use Rattle.sy_core.specs.Chronicle.{assuming}
use Rattle.sy_machines.specs.declared.fired.Fired.{Fired}
use Rattle.sy_machines.specs.Fired.{has}
use Rattle.sy_axioms.specs.declared.moment.Moment.{Moment as KeptMoment}
use Rattle.sy_axioms.specs.declared.moment.Events.{Events}
use Rattle.sy_axioms.specs.declared.moment.States.{States}

-- the kind is among those of a position, if it is there
abbrev pub has_some : Option Fired → Kind → Bool
has_some None kind = false
has_some (Some fired) kind = has fired kind

-- the event is among those that happen
abbrev pub happens : Events → Kind → Target → Bool
happens events kind T.Contract = has events.contract kind
happens events kind (T.Position i) = has_some (slice_get events.positions i) kind

-- the kept events as a set
abbrev pub set_of : Events → Kind × Target → Bool
set_of events event = happens events event.0 event.1

-- the kept state of a target; a position that isn't there is Null
abbrev pub state_in : States → Target → StateOf
state_in states T.Contract = states.contract
state_in states (T.Position i) = unwrap_or (slice_get states.positions i) S.Null

-- the moment that a moment keeps
abbrev pub moment_of : KeptMoment → Moment
moment_of kept = assuming kept.point kept.happenings (state_in kept.states) (set_of kept.events)

-- the kinds that pass a test
abbrev pub fired_by : (Kind → Bool) → Fired
fired_by test = record {
  exerted = test Exerted;
  triggered = test Triggered;
  activated = test Activated;
  resumed = test Resumed;
  suspended = test Suspended;
  fulfilled = test Fulfilled;
  violated = test Violated;
  expired = test Expired;
  discharged = test Discharged;
  terminated = test Terminated;
  completed = test Completed;
}

-- no kind
abbrev pub nothing : Fired
nothing = fired_by (λ kind. false)

-- what the conditions give for each position, from number i on
abbrev pub fired_from : Deed → Moment → List Moment → ℕ → List Position → List Fired
fired_from deed now before i [] = []
fired_from deed now before i (p ∷ ps) =
    fired_by (position_fires deed now before i p) ∷ fired_from deed now before (i + 1) ps

-- one round: what the conditions give for the contract and for each position
abbrev pub round_of : Deed → Moment → List Moment → Events
round_of deed now before = record {
  contract = fired_by (contract_fires deed now);
  positions = fired_from deed now before 0 deed.positions;
}

-- the states after a moment, of the positions from number i on
abbrev pub next_states : Moment → ℕ → List Position → List StateOf
next_states m i [] = []
next_states m i (p ∷ ps) = next_state m i p ∷ next_states m (i + 1) ps

-- the states after a moment
abbrev pub states_past : Deed → KeptMoment → States
states_past deed kept = record {
  contract = contract_after (has kept.events.contract) kept.states.contract;
  positions = next_states (moment_of kept) 0 deed.positions;
}
