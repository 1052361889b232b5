use Rattle.std.proofs.Common.{◌<◌, sym, ◌∙◌, ap, arith, take, [], w64}
use Rattle.std.proofs.lemmas.Int.{to_z-of_z}
use Rattle.sy_core.specs.Propositions.{opposite, lesser, greater}
use Rattle.sy_prop.specs.declared.node.Node.TheVariants as N
use Rattle.sy_prop.specs.Machine.Tables.{last_of, values_from}
use Rattle.sy_prop.proofs.Walking.{value_is, values_length, in_front, past_front, last_in_front, last_of_none, past_values}
use Rattle.sy_prop.proofs.table.+values.Goals as goal

pub earlier-returns-then-number-node : goal.earlier-returns-then-number-node
earlier-returns-then-number-node t c =
    let point_is = to_z-of_z w64 c.args.point c.ranges.point in
    let r = values_from c.args.point [] c.args.nodes.now in
    simp point_is at c.verdict.ensures ∙ sym (in_front r c.args.number c.args.node c.if-number-node.true)

pub earlier-returns-else-number-node : goal.earlier-returns-else-number-node
earlier-returns-else-number-node t c =
    sym (past_front (values_from c.args.point [] c.args.nodes.now) c.args.number c.args.node c.if-number-node.false)

pub last-returns-then-node-eq0 : goal.last-returns-then-node-eq0
last-returns-then-node-eq0 t c =
    let r = values_from c.args.point [] c.args.nodes.now in
    sym (ap (λ n. last_of (take n r)) c.if-node-eq0.true ∙ last_of_none r)

pub last-returns-else-node-eq0 : goal.last-returns-else-node-eq0
last-returns-else-node-eq0 t c =
    let point_is = to_z-of_z w64 c.args.point c.ranges.point in
    let r = values_from c.args.point [] c.args.nodes.now in
    let some : 0 < c.args.node = omega (arith, c.if-node-eq0.false) in
    simp point_is at c.verdict.ensures
    ∙ sym (last_in_front r c.args.node some (omega (arith, c.requires, values_length c.args.point c.args.nodes.now)))

pub verdict-returns-then-node-nodes : goal.verdict-returns-then-node-nodes
verdict-returns-then-node-nodes t c =
    sym (past_values (values_from c.args.point [] c.args.nodes.now) c.args.node (omega (arith, c.if-node-nodes.true, values_length c.args.point c.args.nodes.now)))

pub verdict-returns-then-truth : goal.verdict-returns-then-truth
verdict-returns-then-truth t c =
    sym (value_is c.args.point c.args.nodes.now c.args.node _ _ c.if-node-nodes.false (c.in-Const.is ∙ ap N.Const c.if-truth.true))

pub verdict-returns-else-truth : goal.verdict-returns-else-truth
verdict-returns-else-truth t c =
    sym (value_is c.args.point c.args.nodes.now c.args.node _ _ c.if-node-nodes.false (c.in-Const.is ∙ ap N.Const c.if-truth.false))

pub verdict-returns-in-Not : goal.verdict-returns-in-Not
verdict-returns-in-Not t c =
    let point_is = to_z-of_z w64 c.args.point c.ranges.point in
    c.opposite.ensures ∙ (ap opposite (simp point_is at c.last.ensures)
    ∙ sym (value_is c.args.point c.args.nodes.now c.args.node _ _ c.if-node-nodes.false c.in-Not.is))

pub verdict-returns-in-Both : goal.verdict-returns-in-Both
verdict-returns-in-Both t c =
    let point_is = to_z-of_z w64 c.args.point c.ranges.point in
    let a = simp point_is at c.earlier.ensures in
    let b = simp point_is at c.last-in-Both.ensures in
    c.lesser.ensures ∙ ((λ j. lesser (a j) (b j))
    ∙ sym (value_is c.args.point c.args.nodes.now c.args.node _ _ c.if-node-nodes.false c.in-Both.is))

pub verdict-returns-in-Either : goal.verdict-returns-in-Either
verdict-returns-in-Either t c =
    let point_is = to_z-of_z w64 c.args.point c.ranges.point in
    let a = simp point_is at c.earlier-in-Either.ensures in
    let b = simp point_is at c.last-in-Either.ensures in
    c.greater.ensures ∙ ((λ j. greater (a j) (b j))
    ∙ sym (value_is c.args.point c.args.nodes.now c.args.node _ _ c.if-node-nodes.false c.in-Either.is))

pub verdict-returns-in-Atom : goal.verdict-returns-in-Atom
verdict-returns-in-Atom t c =
    let point_is = to_z-of_z w64 c.args.point c.ranges.point in
    simp point_is at c.verdict.ensures
    ∙ sym (value_is c.args.point c.args.nodes.now c.args.node _ _ c.if-node-nodes.false c.in-Atom.is)
