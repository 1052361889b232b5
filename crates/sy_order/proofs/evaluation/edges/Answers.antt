use Rattle.std.proofs.Common.{◌≡◌, ◌++◌, ◌∙◌, ap, map, sym, length, arith}
use Rattle.sy_core.specs.Prerequisites.{nodes}
use Rattle.sy_order.specs.Nodes.{number_by, nodes_by}
use Rattle.sy_order.specs.Machine.NodeEdges.{edges_to, edges_below}
use Rattle.sy_order.proofs.Numbering.{nodes_are_by_form}
use Rattle.sy_order.proofs.Edging.{needs_by_forms, edges_and_node}
use Rattle.sy_order.specs.Nodes.{as_defined}
use Rattle.sy_order.proofs.evaluation.edges.Goals as goal

pub loop-number-preserved : goal.loop-number-preserved
loop-number-preserved c =
    let l = c.loop-number in
    let deed = c.args.table.now in
    let forms = c.args.index.now in
    let needs = ap (map (number_by forms)) (c.items.ensures ∙ c.in_ok-needs.ensures) ∙ sym (needs_by_forms deed forms l.number (as_defined c.node.result) c.requires c.node.ensures) in
    c.in_ok-add_edges.ensures
    ∙ (ap (λ edges. edges ++ edges_to l.number (map (number_by forms) (map as_defined c.items.result.now))) l.invariant
    ∙ (ap (λ more. edges_below deed l.number ++ edges_to l.number more) needs ∙ sym (edges_and_node deed l.number)))

pub returns : goal.returns
returns c =
    let l = c.loop-number in
    let count = c.count-number-end.ensures ∙ (ap length (ap nodes_by c.requires) ∙ sym (ap length (nodes_are_by_form c.args.table.now))) in
    let at_end : l.number ≡ length (nodes c.args.table.now) = omega (arith, count, c.loop-number-test.false, l.auto.number-end) in
    l.invariant ∙ ap (edges_below c.args.table.now) at_end
