use Rattle.std.proofs.Common.{◌+◌, [], ◌∷◌, ◌++◌, map, drop, length, slice_get, get_or, ap, sym, ◌∙◌, arith}
use Rattle.std.proofs.lemmas.List.{map-append}
use Rattle.sy_core.specs.Prerequisites.{nodes_at, nodes_in_order}
use Rattle.sy_order.specs.Nodes.{as_defined}
use Rattle.sy_present.proofs.Ordered.{adds_node, adds_none, all_added}
use Rattle.sy_present.proofs.nodes.nodes_in_order.Goals as goal
use Rattle.sy_present.proofs.nodes.nodes_in_order.Goals.{then-number-count+in_ok-push, else-number-count}

pub loop-number-init : goal.loop-number-init
loop-number-init c = ap (λ ns. map as_defined ns ++ nodes_at c.args.deed.now c.items-number-items.result.now) c.new-nodes.ensures.items ∙ ap (nodes_at c.args.deed.now) (c.items-number-items.ensures ∙ c.requires.ordered.listed)

pub loop-number-preserved : goal.loop-number-preserved
loop-number-preserved c =
    let deed = c.args.deed.now in
    let numbers = c.items-number-items.result.now in
    let k = c.loop-number.number-index in
    let ns = map as_defined c.loop-number.nodes.items in
    let all = nodes_in_order deed in
    let all_nodes = c.in_ok-index.ensures.nodes in
    let rest = nodes_at deed (drop (k + 1) numbers) in
    elim c.if-number-count.branch [
      | then-number-count+in_ok-push w ↦
          ap (λ v. map as_defined v.items ++ rest) w.nodes-is
          ∙ (ap (λ l. l ++ rest) (ap (map as_defined) w.in_ok-push.ensures.items ∙ map-append as_defined c.loop-number.nodes.items (w.node.result ∷ []))
          ∙ adds_node deed numbers ns all k (as_defined w.node.result) c.loop-number-test.true (ap (λ l. slice_get l (get_or numbers k 0)) (sym all_nodes) ∙ w.node.ensures) c.loop-number.invariant)
      | else-number-count w ↦
          ap (λ v. map as_defined v.items ++ rest) w.nodes-is
          ∙ adds_none deed numbers ns all k c.loop-number-test.true (let e = ap length all_nodes in omega (arith, e, c.count.ensures, w.if-number-count.false)) c.loop-number.invariant
    ]

pub returns : goal.returns
returns c = all_added c.args.deed.now c.items-number-items.result.now (map as_defined c.loop-number.nodes.items) (nodes_in_order c.args.deed.now) c.loop-number.number-index c.loop-number-test.false c.loop-number.invariant
