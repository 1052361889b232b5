use Rattle.std.proofs.Common.{◌≡◌, ◌≤◌, None, length, sym, ap, ◌∙◌, subst}
use Rattle.std.specs.Prelude.{option_and_then}
use Rattle.std.specs.List.{slice_get}
use Rattle.std.proofs.lemmas.Option.{slice_get_past}
use Rattle.sy_core.specs.Prerequisites.{nodes}
use Rattle.sy_order.specs.Nodes.{nodes_by}
use Rattle.sy_order.proofs.Numbering.{nodes_are_by_form}
use Rattle.sy_typing.specs.Plans.{node_place}
use Rattle.sy_typing.proofs.cycle.place_at.Goals as goal

pub returns-then-number-count : goal.returns-then-number-count
returns-then-number-count c =
    let deed = c.args.deed.now in
    c.node_place.ensures
    ∙ sym (ap (option_and_then (node_place c.args.contract.now))
    (ap (λ ns. slice_get ns c.args.number) (nodes_are_by_form deed ∙ sym (ap nodes_by c.requires.index)) ∙ c.node.ensures))

pub returns-else-number-count : goal.returns-else-number-count
returns-else-number-count c =
    let deed = c.args.deed.now in
    sym (ap (option_and_then (node_place c.args.contract.now))
    (slice_get_past (nodes deed) c.args.number
    (subst (λ count. count ≤ c.args.number)
    (c.count.ensures ∙ (ap (λ forms. length (nodes_by forms)) c.requires.index ∙ ap length (sym (nodes_are_by_form deed))))
    c.if-number-count.false)))
