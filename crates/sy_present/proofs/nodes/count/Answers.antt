use Rattle.std.proofs.Common.{◌≡◌, ◌+◌, cond, map, ap, sym, ◌∙◌, arith}
use Rattle.std.proofs.lemmas.List.{take_all}
use Rattle.sy_core.specs.EventOrder.{acts}
use Rattle.sy_order.specs.Nodes.{as_defined}
use Rattle.sy_present.specs.Machine.Counts.{count_acting}
use Rattle.sy_present.proofs.Counted.{count_more}
use Rattle.sy_present.proofs.nodes.count.Goals as goal
use Rattle.sy_present.proofs.nodes.count.Goals.{then-acts, else-acts}

pub loop-node-preserved : goal.loop-node-preserved
loop-node-preserved c =
    let more : c.if-acts.count ≡ c.loop-node.count + cond c.acts.result 1 0 =
    elim c.if-acts.branch [
      | then-acts w ↦ w.count-is ∙ ap (λ b. c.loop-node.count + cond b 1 0) (sym w.if-acts.true)
      | else-acts w ↦ w.count-is ∙ (omega arith ∙ ap (λ b. c.loop-node.count + cond b 1 0) (sym w.if-acts.false))
    ] in
    record {
      few = elim c.if-acts.branch [ then-acts w ↦ omega arith | else-acts w ↦ omega arith ];
      counted = count_more (acts c.args.deed.now c.args.verb) as_defined c.args.nodes.now c.loop-node.node-index _ c.acts.result c.loop-node.count c.if-acts.count c.loop-node-test.true c.acts.ensures c.loop-node.invariant.counted more;
    }

pub returns : goal.returns
returns c = c.loop-node.invariant.counted ∙ ap (λ ns. count_acting c.args.deed.now c.args.verb (map as_defined ns)) (take_all c.loop-node.node-index c.args.nodes.now c.loop-node-test.false)
