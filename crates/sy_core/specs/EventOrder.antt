-- The internal events of a deed, in an order in which those of one point can be decided one after the other.
-- The nodes stand in the order of evaluation, each as its events. Three events of the contract have no node, since they need nothing but
-- exertions: resumed, suspended and terminated. Each stands right after the last exertion of a power that does this to the contract, and at
-- the front where no power does.
use Rattle.std.specs.Prelude.{ℕ, Bool, false, not, ◌&&◌, List, [], ◌∷◌, ◌++◌, Option, Some, None, slice_get, if◌then◌else◌}
use Rattle.std.specs.List.{list_any}
use Rattle.sy_words.specs.declared.kind.Kind.{Kind}
use Rattle.sy_words.specs.declared.kind.Kind.TheVariants.{Exerted, Triggered, Activated, Resumed, Suspended, Fulfilled, Violated, Expired, Discharged, Terminated, Completed}
use Rattle.sy_words.specs.declared.form.Form.{Form}
use Rattle.sy_words.specs.declared.form.Form.TheVariants.{Obligation, Surviving, Power}
use Rattle.sy_words.specs.declared.verb.Verb.{Verb}
use Rattle.sy_words.specs.declared.verb.Verb.TheVariants.{Suspends, Resumes, Terminates}
use Rattle.sy_core.specs.declared.kind.Target.{Target}
use Rattle.sy_core.specs.declared.kind.Target.TheVariants as T
use Rattle.sy_core.specs.declared.position.Position.{Position}
use Rattle.sy_core.specs.declared.deed.Deed.{Deed}
use Rattle.sy_core.specs.Mentions.{InternalEvent}
use Rattle.sy_core.specs.Conditions.{is_act}
use Rattle.sy_core.specs.Prerequisites.{Node, Exert, Trig, Act, End, Contract, nodes_in_order}

-- the events that end an obligation: those by which a power ends it, then its expiry, then its own ends
abbrev pub obligation_ends : Target → List InternalEvent
obligation_ends x = (Discharged, x) ∷ (Terminated, x) ∷ (Expired, x) ∷ (Fulfilled, x) ∷ (Violated, x) ∷ []

-- the events that end a position
abbrev pub end_events : Target → Form → List InternalEvent
end_events x Obligation = obligation_ends x
end_events x Surviving = obligation_ends x
end_events x Power = (Terminated, x) ∷ (Expired, x) ∷ []

-- those that end the position that is there
abbrev pub end_events_of : Target → Option Position → List InternalEvent
end_events_of x None = []
end_events_of x (Some p) = end_events x p.form

-- the event of the contract, where something says that it stands here
abbrev pub event_if : Bool → Kind → List InternalEvent
event_if stands kind = if stands then (kind, T.Contract) ∷ [] else []

-- the contract's events without a node, where their verbs pass a test
abbrev pub contract_events : (Verb → Bool) → List InternalEvent
contract_events passes = event_if (passes Resumes) Resumed ++ (event_if (passes Suspends) Suspended ++ event_if (passes Terminates) Terminated)

-- the position that is there does this to the contract
abbrev pub does_to_contract : Verb → Option Position → Bool
does_to_contract verb None = false
does_to_contract verb (Some p) = is_act verb T.Contract p.goal

module _ (deed : Deed) where
  -- the events of a node, in their order
  abbrev pub node_events : Node → List InternalEvent
  node_events (Exert i) = (Exerted, T.Position i) ∷ []
  node_events (Trig i) = (Triggered, T.Position i) ∷ []
  node_events (Act i) = (Activated, T.Position i) ∷ (Resumed, T.Position i) ∷ (Suspended, T.Position i) ∷ []
  node_events (End i) = end_events_of (T.Position i) (slice_get deed.positions i)
  node_events Contract = (Completed, T.Contract) ∷ []

  -- the node is the exertion of a power that does this to the contract
  abbrev pub acts : Verb → Node → Bool
  acts verb (Exert i) = does_to_contract verb (slice_get deed.positions i)
  acts verb (Trig i) = false
  acts verb (Act i) = false
  acts verb (End i) = false
  acts verb Contract = false

  -- none of some nodes does this to the contract
  abbrev pub none_acts : List Node → Verb → Bool
  none_acts ns verb = not (list_any (acts verb) ns)

  -- the events of some nodes that follow one another, with those of the contract behind the last exertions that do them
  abbrev pub events_of_nodes : List Node → List InternalEvent
  events_of_nodes [] = []
  events_of_nodes (n ∷ later) = node_events n ++ (contract_events (λ verb. acts verb n && none_acts later verb) ++ events_of_nodes later)

  -- the events of a deed in their order
  abbrev pub event_order : List InternalEvent
  event_order = contract_events (none_acts (nodes_in_order deed)) ++ events_of_nodes (nodes_in_order deed)
