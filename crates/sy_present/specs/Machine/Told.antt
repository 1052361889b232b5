-- What is kept while a point is evaluated, and once it is settled.
use Rattle.std.specs.Prelude.{◌≡◌, ℕ, Bool, true, false, Some, slice_get}
use Rattle.sy_words.specs.declared.kind.Kind.{Kind}
use Rattle.sy_words.specs.declared.kind.Kind.TheVariants.{Exerted, Violated}
use Rattle.sy_words.specs.declared.verb.Verb.{Verb}
use Rattle.sy_words.specs.declared.verb.Verb.TheVariants as Verbs
use Rattle.sy_core.specs.declared.kind.Target.{Target}
use Rattle.sy_core.specs.declared.kind.Target.TheVariants as T
use Rattle.sy_core.specs.declared.event.Ev.TheVariants.{Inner}
use Rattle.sy_core.specs.declared.deed.Deed.{Deed}
use Rattle.sy_core.specs.Mentions.{InternalEvent}
use Rattle.sy_core.specs.Moments.{first_point}
use Rattle.sy_core.specs.Conditions.{by}
use Rattle.sy_core.specs.Chronicle.{states_next}
use Rattle.sy_machines.specs.Fired.{has}
use Rattle.sy_quiet.specs.Histories.{History, moments}
use Rattle.sy_quiet.specs.Evaluation.{with_states}
use Rattle.sy_prop.specs.Standing.{StandsFor as LatchesStand}
use Rattle.sy_present.specs.declared.done.Done.{Done}
use Rattle.sy_present.specs.declared.place.Place.{Place}
use Rattle.sy_present.specs.declared.present.Present.{Present}

-- this was done
abbrev pub has_done : Done → Verb → Bool
has_done done Verbs.Suspends = done.suspends
has_done done Verbs.Resumes = done.resumes
has_done done Verbs.Discharges = done.discharges
has_done done Verbs.Terminates = done.terminates
has_done done Verbs.Triggers = done.triggers

-- the place is that of position number i, with what was told of the present point so far
pub record IsPlaceAt (place : Place) (deed : Deed) (h : History) (i : ℕ) : Type 0 where
  pub state : place.state ≡ h.now.state (T.Position i)
  pub asked : place.asked ≡ h.now.asked i
  pub fired : (kind : Kind) → has place.fired kind ≡ h.now.seen (Inner kind (T.Position i))
  pub done : (verb : Verb) → has_done place.done verb ≡ by deed h.now verb (T.Position i)
  pub violated : place.violated ≡ first_point (Inner Violated (T.Position i)) h.before
  pub exerted : place.exerted ≡ first_point (Inner Exerted (T.Position i)) h.before

-- whether anything internal happened now
pub record IsEventful (eventful : Bool) (h : History) : Type 0 where
  pub some : eventful ≡ true → (event : InternalEvent) × (h.now.seen (Inner event.0 event.1) ≡ true)
  pub none : eventful ≡ false → (event : InternalEvent) → h.now.seen (Inner event.0 event.1) ≡ false

-- it keeps what was told of the present point so far
pub record IsPresent (present : Present) (deed : Deed) (h : History) : Type 0 where
  pub contract : present.contract ≡ h.now.state T.Contract
  pub contract_fired : (kind : Kind) → has present.contract_fired kind ≡ h.now.seen (Inner kind T.Contract)
  pub contract_done : (verb : Verb) → has_done present.contract_done verb ≡ by deed h.now verb T.Contract
  pub places : (i : ℕ) (place : Place) → slice_get present.places.items i ≡ Some place → IsPlaceAt place deed h i
  pub eventful : IsEventful present.eventful h
  pub latches : LatchesStand present.latches deed h
  -- no state is set yet
  pub unset : (target : Target) → h.next target ≡ h.now.state target

-- the place is that of position number i after the present point
pub record IsSettledAt (place : Place) (deed : Deed) (h : History) (i : ℕ) : Type 0 where
  pub state : place.state ≡ states_next deed h.now (T.Position i)
  pub fired : (kind : Kind) → has place.fired kind ≡ h.now.seen (Inner kind (T.Position i))
  pub violated : place.violated ≡ first_point (Inner Violated (T.Position i)) (moments h)
  pub exerted : place.exerted ≡ first_point (Inner Exerted (T.Position i)) (moments h)

-- all of the present point is told, and the states after it are set
pub record IsSettled (present : Present) (deed : Deed) (h : History) : Type 0 where
  pub contract : present.contract ≡ states_next deed h.now T.Contract
  pub places : (i : ℕ) (place : Place) → slice_get present.places.items i ≡ Some place → IsSettledAt place deed h i
  pub eventful : IsEventful present.eventful h
  pub latches : LatchesStand present.latches deed (with_states deed h)
