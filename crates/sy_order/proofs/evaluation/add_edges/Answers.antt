use Rattle.sy_order.specs.declared.node.Node.TheVariants.{Exert}
use Rattle.sy_order.proofs.Edging.{edge_added}
use Rattle.sy_order.proofs.evaluation.add_edges.Goals as goal

pub loop-need-preserved : goal.loop-need-preserved
loop-need-preserved c =
    let l = c.loop-need in
    rw (c.in_ok-push.ensures.ok, c.number.ensures) (edge_added c.args.index.now c.args.node c.args.needs.now l.need-index l.edges _ c.loop-need-test.true l.invariant)
