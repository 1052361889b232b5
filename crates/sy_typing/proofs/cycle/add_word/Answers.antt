use Rattle.std.proofs.Common.{◌≡◌, ◌<◌, ◌≤◌, ◌++◌, length, sym, ap, ◌∙◌, subst}
use Rattle.std.proofs.lemmas.List.{append-nil}
use Rattle.sy_order.specs.Nodes.{nodes_by}
use Rattle.sy_order.proofs.Numbering.{nodes_are_by_form}
use Rattle.sy_typing.proofs.Lines.{no_word}
use Rattle.sy_typing.proofs.cycle.add_word.Goals as goal

pub node_text-requires-clause-there : goal.node_text-requires-clause-there
node_text-requires-clause-there c =
    let deed = c.args.deed.now in
    subst (λ count. c.args.number < count)
    (c.count.ensures ∙ (ap (λ forms. length (nodes_by forms)) c.requires ∙ ap length (sym (nodes_are_by_form deed))))
    c.if-number-count.true

pub returns-else-number-count : goal.returns-else-number-count
returns-else-number-count c =
    let deed = c.args.deed.now in
    let items = c.args.out.now.items in
    sym (append-nil items)
    ∙ ap (λ l. items ++ l)
    (no_word deed c.args.number
    (subst (λ count. count ≤ c.args.number)
    (c.count.ensures ∙ (ap (λ forms. length (nodes_by forms)) c.requires ∙ ap length (sym (nodes_are_by_form deed))))
    c.if-number-count.false))
