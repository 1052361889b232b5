use Rattle.std.proofs.Common.{◌∙◌, ap, sym}
use Rattle.std.proofs.lemmas.Result.{IfOk-weaker}
use Rattle.sy_order.specs.Nodes.{nodes_by, forms_of}
use Rattle.sy_order.proofs.Numbering.{nodes_are_by_form}
use Rattle.sy_order.proofs.index.NodeIndex.of_deed.Goals as goal

pub returns-clause-nodes : goal.returns-clause-nodes
returns-clause-nodes c =
    let forms = c.items-2.ensures ∙ (c.in_ok-forms.ensures ∙ ap forms_of c.items.ensures) in
    IfOk-weaker c.of.result _ _ (λ index e. ap nodes_by (e ∙ forms) ∙ sym (nodes_are_by_form c.args.deed.now)) c.of.ensures
