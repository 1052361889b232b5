-- The nodes of a deed, what each needs, and the order in which a point is evaluated.
-- A node stands for the internal events of one sort of one position, or for those of the contract. They are numbered in the order of the
-- positions: for each power Exert, Trig, Act and End, for each obligation Trig, Act and End; last Contract.
use Rattle.std.specs.Prelude.{ℕ, Bool, true, false, ◌==◌, List, [], ◌∷◌, ◌++◌, map, length, Option, Some, None, slice_get, if◌then◌else◌}
use Rattle.std.specs.List.{position_or_len, filter, flat_map}
use Rattle.sy_words.specs.declared.kind.Kind.{Kind}
use Rattle.sy_words.specs.declared.kind.Kind.TheVariants.{Exerted, Triggered, Activated, Resumed, Suspended, Fulfilled, Violated, Expired, Discharged, Terminated, Completed}
use Rattle.sy_core.specs.declared.kind.Target.{Target}
use Rattle.sy_core.specs.declared.kind.Target.TheVariants as T
use Rattle.sy_words.specs.declared.form.Form.{Form}
use Rattle.sy_words.specs.declared.form.Form.TheVariants.{Obligation, Surviving, Power}
use Rattle.sy_words.specs.declared.verb.Verb.{Verb}
use Rattle.sy_words.specs.declared.verb.Verb.TheVariants as Verbs
use Rattle.sy_core.specs.declared.position.Position.{Position}
use Rattle.sy_core.specs.declared.deed.Deed.{Deed}
use Rattle.sy_core.specs.Mentions.{InternalEvent, names_of, names_of_duty}
use Rattle.sy_core.specs.Conditions.{acts_on_contract, survives, numbered, powers_to, remedies_of, awaited}
use Rattle.sy_core.specs.Orders.{order}

-- the exertion, the creation, the coming into effect and the end of position number i, and the contract
pub data Node : Type 0 where
  Exert : ℕ → Node
  Trig : ℕ → Node
  Act : ℕ → Node
  End : ℕ → Node
  Contract : Node

-- two nodes are the same
abbrev pub same_node : Node → Node → Bool
same_node (Exert i) (Exert j) = i == j
same_node (Trig i) (Trig j) = i == j
same_node (Act i) (Act j) = i == j
same_node (End i) (End j) = i == j
same_node Contract Contract = true
same_node _ _ = false

-- the creation, the coming into effect and the end of an obligation
abbrev pub obligation_nodes : ℕ → List Node
obligation_nodes i = Trig i ∷ Act i ∷ End i ∷ []

-- the nodes of position number i
abbrev pub nodes_of : Form → ℕ → List Node
nodes_of Obligation i = obligation_nodes i
nodes_of Surviving i = obligation_nodes i
nodes_of Power i = Exert i ∷ Trig i ∷ Act i ∷ End i ∷ []

-- the exertions of some powers
abbrev pub exertion_nodes : List (ℕ × Position) → List Node
exertion_nodes powers = map (λ n. Exert n.0) powers

-- the exertion of the position itself, where it is a power
abbrev pub own_exert : Form → ℕ → List Node
own_exert Obligation i = []
own_exert Surviving i = []
own_exert Power i = Exert i ∷ []

-- the node that is there, in a list
abbrev pub node_list : Option Node → List Node
node_list None = []
node_list (Some node) = node ∷ []

module _ (deed : Deed) where
  -- the nodes, by number
  abbrev pub nodes : List Node
  nodes = flat_map (λ n. nodes_of n.1.form n.0) (numbered deed) ++ Contract ∷ []

  -- a node's number
  abbrev pub number_of : Node → ℕ
  number_of node = position_or_len (same_node node) nodes

  -- the exertions of the powers that do this to that target
  abbrev pub exerts : Verb → Target → List Node
  exerts verb target = exertion_nodes (powers_to deed verb target)

  -- the exertions of the powers that act on the contract
  abbrev pub exerts_on_contract : List Node
  exerts_on_contract = exertion_nodes (filter (λ n. acts_on_contract n.1.goal) (numbered deed))

  -- the nodes that completion needs: of each awaited obligation, and of its remedies
  abbrev pub completion_nodes : List Node
  completion_nodes =
      flat_map (λ n. obligation_nodes n.0 ++ flat_map (λ remedy. obligation_nodes remedy.0) (remedies_of deed (T.Position n.0))) (awaited deed)

  -- the nodes of an event of the contract
  abbrev pub contract_event_nodes : Kind → List Node
  contract_event_nodes Exerted = []
  contract_event_nodes Triggered = []
  contract_event_nodes Activated = []
  contract_event_nodes Resumed = exerts Verbs.Resumes T.Contract
  contract_event_nodes Suspended = exerts Verbs.Suspends T.Contract
  contract_event_nodes Fulfilled = []
  contract_event_nodes Violated = []
  contract_event_nodes Expired = []
  contract_event_nodes Discharged = []
  contract_event_nodes Terminated = exerts Verbs.Terminates T.Contract
  contract_event_nodes Completed = Contract ∷ []

  -- the node of an event of position number i
  abbrev pub position_event_nodes : ℕ → Kind → List Node
  position_event_nodes i Exerted = Exert i ∷ []
  position_event_nodes i Triggered = Trig i ∷ []
  position_event_nodes i Activated = Act i ∷ []
  position_event_nodes i Resumed = Act i ∷ []
  position_event_nodes i Suspended = Act i ∷ []
  position_event_nodes i Fulfilled = End i ∷ []
  position_event_nodes i Violated = End i ∷ []
  position_event_nodes i Expired = End i ∷ []
  position_event_nodes i Discharged = End i ∷ []
  position_event_nodes i Terminated = End i ∷ []
  position_event_nodes i Completed = []

  -- the nodes of an internal event that a proposition names
  abbrev pub event_nodes : Kind → Target → List Node
  event_nodes kind T.Contract = contract_event_nodes kind
  event_nodes kind (T.Position i) = position_event_nodes i kind

  -- the nodes of the events that propositions name
  abbrev pub named_nodes : List InternalEvent → List Node
  named_nodes events = flat_map (λ event. event_nodes event.0 event.1) events

  -- what Trig of position number i needs
  abbrev pub trig_needs : ℕ → Position → List Node
  trig_needs i p = exerts Verbs.Triggers (T.Position i) ++ named_nodes (names_of p.trigger)

  -- what Act of position number i needs
  abbrev pub act_needs : ℕ → Position → List Node
  act_needs i p =
      (Trig i ∷ named_nodes (names_of p.antecedent))
      ++ exerts Verbs.Suspends (T.Position i) ++ exerts Verbs.Resumes (T.Position i) ++ own_exert p.form i

  -- what End of position number i needs
  abbrev pub end_needs : ℕ → Position → List Node
  end_needs i p =
      (Trig i ∷ Act i ∷ named_nodes (names_of p.antecedent)) ++ named_nodes (names_of_duty p.goal)
      ++ exerts Verbs.Discharges (T.Position i) ++ exerts Verbs.Terminates (T.Position i)
      ++ (if survives p.form then [] else exerts Verbs.Terminates T.Contract) ++ own_exert p.form i

  -- what a rule says of the position that is there
  abbrev pub needs_at : (ℕ → Position → List Node) → ℕ → Option Position → List Node
  needs_at needs_of i None = []
  needs_at needs_of i (Some p) = needs_of i p

  -- what a node needs
  abbrev pub needs : Node → List Node
  needs (Exert i) = []
  needs (Trig i) = needs_at trig_needs i (slice_get deed.positions i)
  needs (Act i) = needs_at act_needs i (slice_get deed.positions i)
  needs (End i) = needs_at end_needs i (slice_get deed.positions i)
  needs Contract = exerts_on_contract ++ completion_nodes

  -- the numbers of what the node that is there needs
  abbrev pub numbered_needs_of : Option Node → List ℕ
  numbered_needs_of None = []
  numbered_needs_of (Some node) = map number_of (needs node)

  -- what the node with a number needs, by number
  abbrev pub numbered_needs : ℕ → List ℕ
  numbered_needs k = numbered_needs_of (slice_get nodes k)

  -- the order in which the nodes of a point are evaluated, by number
  abbrev pub order_of : List ℕ
  order_of = order numbered_needs (length nodes)

  -- the nodes with some numbers
  abbrev pub nodes_at : List ℕ → List Node
  nodes_at numbers = flat_map (λ k. node_list (slice_get nodes k)) numbers

  -- the nodes in the order in which those of a point are evaluated
  abbrev pub nodes_in_order : List Node
  nodes_in_order = nodes_at order_of
