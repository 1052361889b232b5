-- What edges say that nodes need, and what is told where the needs have a cycle.
use Rattle.std.specs.Prelude.{◌≡◌, ◌==◌, ⊤, IsTrue, ℕ, List, [], ◌∷◌, map}
use Rattle.std.specs.List.{filter}
use Rattle.sy_core.specs.Orders.{is_listed, IsAcyclic, named_cycle}
use Rattle.sy_strata.specs.declared.edge.Edge.{Edge}
use Rattle.sy_strata.specs.declared.fault.OrderFault.{OrderFault}
use Rattle.sy_strata.specs.declared.fault.OrderFault.TheVariants.{Cycle, Memory}

-- what the edges say that a node needs, edge by edge
abbrev pub needs_by : List Edge → ℕ → List ℕ
needs_by edges node = map (λ edge. edge.needs) (filter (λ edge. edge.node == node) edges)

-- a cycle is told only where the needs have one, and it is the one that is named
abbrev pub IsCycleFault : (ℕ → List ℕ) → ℕ → OrderFault → Type 0
IsCycleFault needs count (Cycle nodes) = (¬ IsAcyclic needs count) × (nodes ≡ named_cycle needs count)
IsCycleFault needs count Memory = ⊤

-- the first of the nodes, or else the other one
abbrev pub first_or : List ℕ → ℕ → ℕ
first_or [] other = other
first_or (node ∷ nodes) other = node

-- each of the nodes needs the one after it, and the last one needs the other one
abbrev pub LeadTo : (ℕ → List ℕ) → List ℕ → ℕ → Type 0
LeadTo needs [] other = ⊤
LeadTo needs (node ∷ nodes) other = IsTrue (is_listed (needs node) (first_or nodes other)) × LeadTo needs nodes other

-- there are nodes, each of them needs the one after it, and the last one needs the first
abbrev pub IsCircle : (ℕ → List ℕ) → List ℕ → Type 0
IsCircle needs [] = ⊥
IsCircle needs (node ∷ nodes) = LeadTo needs (node ∷ nodes) node

-- the nodes that are told need each other in a circle
abbrev pub IsCircleFault : (ℕ → List ℕ) → OrderFault → Type 0
IsCircleFault needs (Cycle nodes) = IsCircle needs nodes
IsCircleFault needs Memory = ⊤
