use Rattle.std.proofs.Common.{◌≡◌, ◌<◌, ℕ, List, ◌∙◌, ap, sym, subst, length, arith}
use Rattle.std.specs.Prelude.{IfOk, OnOk, IfErr}
use Rattle.std.specs.List.{All}
use Rattle.sy_core.specs.declared.deed.Deed.{Deed}
use Rattle.sy_core.specs.Orders.{order, IsAcyclic}
use Rattle.sy_core.specs.Prerequisites.{nodes}
use Rattle.sy_strata.specs.declared.edge.Edge.{Edge}
use Rattle.sy_strata.specs.Edges.{IsCycleFault, IsCircleFault}
use Rattle.sy_order.specs.Nodes.{nodes_by, forms_of}
use Rattle.sy_order.specs.Machine.NodeEdges.{edges_below}
use Rattle.sy_order.proofs.Numbering.{few_by_forms}
use Rattle.sy_order.proofs.Needing.{needs_are_below}
use Rattle.sy_order.proofs.Edging.{ends_below, of_deed}
use Rattle.sy_order.proofs.evaluation.evaluation_order.Goals as goal

pub order-requires-clause-few : goal.order-requires-clause-few
order-requires-clause-few c =
    let is = c.count.ensures ∙ ap length (ap nodes_by (c.in_ok-index.ensures.forms)) in
    omega (arith, is, few_by_forms c.args.deed.now.positions, c.requires.few)

pub order-requires-clause-ends : goal.order-requires-clause-ends
order-requires-clause-ends c =
    let deed = c.args.deed.now in
    let count = c.count.ensures ∙ ap length c.in_ok-index.ensures.nodes in
    let edges = c.items.ensures ∙ (c.in_ok-edges.ensures ∙ ap (λ (d : Deed). edges_below d (length (nodes d))) c.in_ok-table.ensures) in
    let below = ends_below deed (needs_are_below deed c.requires.there) in
    subst (λ (l : List Edge). All (λ edge. (edge.node < c.count.result) × (edge.needs < c.count.result)) l) (sym edges)
    (subst (λ n. All (λ (edge : Edge). (edge.node < n) × (edge.needs < n)) (edges_below deed (length (nodes deed)))) (sym count) below)

pub returns : goal.returns
returns c =
    let deed = c.args.deed.now in
    let count = c.count.ensures ∙ ap length c.in_ok-index.ensures.nodes in
    let edges = c.items.ensures ∙ (c.in_ok-edges.ensures ∙ ap (λ (d : Deed). edges_below d (length (nodes d))) c.in_ok-table.ensures) in
    let result = c.order.result in
    let told = c.order.ensures in
    record {
      listed = of_deed (λ needs n. IfOk result (λ list. list ≡ order needs n)) deed c.items.result.now c.count.result edges count told.listed;
      acyclic = of_deed (λ needs n. OnOk result (IsAcyclic needs n)) deed c.items.result.now c.count.result edges count told.acyclic;
      cycle = of_deed (λ needs n. IfErr result (IsCycleFault needs n)) deed c.items.result.now c.count.result edges count told.cycle;
      circle = of_deed (λ needs n. IfErr result (IsCircleFault needs)) deed c.items.result.now c.count.result edges count told.circle;
    }
