use Rattle.std.proofs.Common.{take, get_or, arith, rules}
use Rattle.std.specs.declared.option.Option.TheVariants.{None}
use Rattle.std.proofs.lemmas.List.{take_more, get_or_read}
use Rattle.sy_strata.specs.declared.edge.Edge.{Edge}
use Rattle.sy_strata.proofs.Rest.{none_known, edge_to_listed, edge_to_remaining}
use Rattle.sy_strata.proofs.cycle.least_needs.Goals as goal
use Rattle.sy_strata.proofs.cycle.least_needs.Goals.{then-remains-edge, else-remains-edge}

pub loop-edge-init : goal.loop-edge-init
loop-edge-init c = rw (c.in_ok-least.ensures.items_if_clones_equal (λ y h. search rules)) (none_known c.args.n c.args.remains.now)

pub loop-edge-preserved : goal.loop-edge-preserved
loop-edge-preserved c =
    let i = c.loop-edge.edge-index in
    let d : Edge = record { node = 0; needs = 0 } in
    let edge = get_or c.args.edges.now i d in
    let so_far = c.loop-edge.invariant in
    let ends = c.requires.ends i d c.loop-edge-test.true in
    rw (take_more c.args.edges.now i d c.loop-edge-test.true) (elim c.if-remains-edge.branch [
      | then-remains-edge w ↦
          let value = get_or_read c.loop-edge.least.items edge.node w.index.result.now (omega (arith, so_far.least_length, ends.0)) w.index.ensures None in
          rw (w.least-is, w.lesser.ensures, value) (edge_to_remaining c.args.n (take i c.args.edges.now) edge c.args.remains.now c.loop-edge.least.items so_far ends.0 ends.1 w.if-remains-edge.true)
      | else-remains-edge w ↦
          rw w.least-is (edge_to_listed c.args.n (take i c.args.edges.now) edge c.args.remains.now c.loop-edge.least.items so_far w.if-remains-edge.false)
    ])
