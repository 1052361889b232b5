-- The edges of a deed's nodes.
use Rattle.std.specs.Prelude.{ℕ, List, map}
use Rattle.std.specs.List.{flat_map}
use Rattle.sy_core.specs.declared.deed.Deed.{Deed}
use Rattle.sy_core.specs.Orders.{numbers_below}
use Rattle.sy_core.specs.Prerequisites.{numbered_needs}
use Rattle.sy_strata.specs.declared.edge.Edge.{Edge}

-- the edges from a node to some others
abbrev pub edges_to : ℕ → List ℕ → List Edge
edges_to node needs = map (λ need. record { node = node; needs = need }) needs

-- the edges from the nodes below a count to what they need
abbrev pub edges_below : Deed → ℕ → List Edge
edges_below deed count = flat_map (λ k. edges_to k (numbered_needs deed k)) (numbers_below count)
