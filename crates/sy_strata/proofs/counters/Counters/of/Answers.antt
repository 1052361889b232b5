use Rattle.std.proofs.Common.{[], take, get_or, arith}
use Rattle.std.proofs.lemmas.List.{take_more, get_or_read, length-take-le}
use Rattle.sy_strata.specs.declared.edge.Edge.{Edge}
use Rattle.sy_strata.proofs.Built.{counted_more, few_needs}
use Rattle.sy_strata.proofs.counters.Counters.of.Goals as goal

pub overflow_add-index_mut : goal.overflow_add-index_mut
overflow_add-index_mut c =
    let i = c.loop-edge.edge-index in
    let d : Edge = record { node = 0; needs = 0 } in
    let edge = get_or c.args.edges.now i d in
    let so_far = c.loop-edge.invariant in
    let ends = c.requires i d c.loop-edge-test.true in
    let value = get_or_read c.loop-edge.unmet.items edge.node c.index_mut-in-loop-edge.result.now (omega (arith, so_far.unmet_length, ends.0)) c.index_mut-in-loop-edge.ensures.value 0 in
    omega (arith, value, so_far.unmet_are edge.node, few_needs (take i c.args.edges.now) edge.node, length-take-le i c.args.edges.now c.loop-edge.auto.edge-index-end)

pub loop-edge-preserved : goal.loop-edge-preserved
loop-edge-preserved c =
    let i = c.loop-edge.edge-index in
    let d : Edge = record { node = 0; needs = 0 } in
    let edge = get_or c.args.edges.now i d in
    let so_far = c.loop-edge.invariant in
    let ends = c.requires i d c.loop-edge-test.true in
    let row = get_or_read c.loop-edge.needers.items edge.needs c.index_mut.result.now (omega (arith, so_far.needers_length, ends.1)) c.index_mut.ensures.value [] in
    let value = get_or_read c.loop-edge.unmet.items edge.node c.index_mut-in-loop-edge.result.now (omega (arith, so_far.unmet_length, ends.0)) c.index_mut-in-loop-edge.ensures.value 0 in
    rw (take_more c.args.edges.now i d c.loop-edge-test.true, c.in_ok-push.ensures.ok, row, value) (counted_more c.args.n (take i c.args.edges.now) edge c.loop-edge.needers.items c.loop-edge.unmet.items ends.0 ends.1 so_far)
