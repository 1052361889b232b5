-- Which internal events of the same point a condition looks at, and when a list has a deed's events in such an order that each looks only
-- at events before it.
use Rattle.std.specs.Prelude.{◌≡◌, ℕ, false, List, [], ◌∷◌, ◌++◌, Option, Some, None, slice_get, length, map, flat_map, ◌⊎◌, if◌then◌else◌}
use Rattle.std.specs.List.{Contains}
use Rattle.sy_words.specs.declared.kind.Kind.{Kind}
use Rattle.sy_words.specs.declared.kind.Kind.TheVariants.{Exerted, Triggered, Activated, Resumed, Suspended, Fulfilled, Violated, Expired, Discharged, Terminated, Completed}
use Rattle.sy_core.specs.declared.kind.Target.{Target}
use Rattle.sy_core.specs.declared.kind.Target.TheVariants as T
use Rattle.sy_words.specs.declared.form.Form.{Form}
use Rattle.sy_words.specs.declared.verb.Verb.{Verb}
use Rattle.sy_words.specs.declared.verb.Verb.TheVariants as Verbs
use Rattle.sy_core.specs.declared.position.Position.{Position}
use Rattle.sy_core.specs.declared.deed.Deed.{Deed}
use Rattle.sy_core.specs.Moments.{Moment}
use Rattle.sy_core.specs.Mentions.{InternalEvent, names_of, names_of_duty}
use Rattle.sy_core.specs.Conditions.{survives, powers_to, remedies_of, awaited, events_of_position, fires, count_events}

-- what keeps a duty in force, and ends it
abbrev pub duty_reads : Target → List InternalEvent
duty_reads x = (Activated, x) ∷ (Resumed, x) ∷ (Suspended, x) ∷ (Discharged, x) ∷ (Terminated, x) ∷ []

module _ (deed : Deed) where
  -- the exertions of the powers that do this to that target
  abbrev pub exertions : Verb → Target → List InternalEvent
  exertions verb target = map (λ n. (Exerted, T.Position n.0)) (powers_to deed verb target)

  -- the events that give the states that completion looks at: of each awaited obligation, and of its remedies
  abbrev pub completion_reads : List InternalEvent
  completion_reads = flat_map (λ n. events_of_position n ++ flat_map events_of_position (remedies_of deed (T.Position n.0))) (awaited deed)

  -- the exertions that end a position with the contract, where its form heeds it
  abbrev pub contract_ends : Form → List InternalEvent
  contract_ends form = if survives form then [] else exertions Verbs.Terminates T.Contract

  -- what the condition of an event of the contract looks at, one equation a row
  abbrev pub contract_reads : Kind → List InternalEvent
  contract_reads Exerted = []
  contract_reads Triggered = []
  contract_reads Activated = []
  contract_reads Resumed = exertions Verbs.Resumes T.Contract
  contract_reads Suspended = exertions Verbs.Suspends T.Contract
  contract_reads Fulfilled = []
  contract_reads Violated = []
  contract_reads Expired = []
  contract_reads Discharged = []
  contract_reads Terminated = exertions Verbs.Terminates T.Contract
  contract_reads Completed = (Suspended, T.Contract) ∷ (Terminated, T.Contract) ∷ completion_reads

  -- what the condition of an event of position number i looks at, one equation a row
  abbrev pub position_reads : ℕ → Position → Kind → List InternalEvent
  position_reads i p Exerted = []
  position_reads i p Triggered = names_of p.trigger ++ exertions Verbs.Triggers (T.Position i)
  position_reads i p Activated = (Triggered, T.Position i) ∷ names_of p.antecedent
  position_reads i p Resumed = exertions Verbs.Resumes (T.Position i)
  position_reads i p Suspended =
      (Activated, T.Position i) ∷ (Resumed, T.Position i) ∷ (Exerted, T.Position i) ∷ exertions Verbs.Suspends (T.Position i)
  position_reads i p Fulfilled = duty_reads (T.Position i) ++ names_of_duty p.goal
  position_reads i p Violated = duty_reads (T.Position i) ++ names_of_duty p.goal
  position_reads i p Expired = (Triggered, T.Position i) ∷ names_of p.antecedent
  position_reads i p Discharged = (Triggered, T.Position i) ∷ exertions Verbs.Discharges (T.Position i)
  position_reads i p Terminated =
      (Triggered, T.Position i) ∷ (Exerted, T.Position i) ∷ (exertions Verbs.Terminates (T.Position i) ++ contract_ends p.form)
  position_reads i p Completed = []

  -- nothing, for a position that isn't there
  abbrev pub reads_of : ℕ → Option Position → Kind → List InternalEvent
  reads_of i None kind = []
  reads_of i (Some p) kind = position_reads i p kind

  -- the internal events of the same point that an event's condition looks at
  abbrev pub reads : Kind → Target → List InternalEvent
  reads kind T.Contract = contract_reads kind
  reads kind (T.Position i) = reads_of i (slice_get deed.positions i) kind

-- the list has as many events as the deed, each after those that its condition looks at, where these can happen at all; no other event happens
pub record IsOrderOf (deed : Deed) (order : List InternalEvent) : Type 0 where
  pub reads_before : (earlier later : List InternalEvent) (e : InternalEvent) → order ≡ earlier ++ e ∷ later → (d : InternalEvent) → Contains (reads deed e.0 e.1) d → Contains earlier d ⊎ (Contains order d → ⊥)
  pub others : (e : InternalEvent) → (Contains order e → ⊥) → (now : Moment) (before : List Moment) → fires deed now before e.0 e.1 ≡ false
  pub long : length order ≡ count_events deed.positions
