use Rattle.std.proofs.Common.{◌≡◌, Some, ◌<◌, ◌∙◌, ap, sym, subst, length, refl}
use Rattle.std.specs.Prelude.{option_map}
use Rattle.std.specs.List.{slice_get}
use Rattle.std.proofs.lemmas.Result.{IfOk-weaker}
use Rattle.sy_core.specs.NodeTexts.{node_text}
use Rattle.sy_core.specs.Prerequisites.{Node, Exert, Trig, Act, End, Contract}
use Rattle.sy_core.specs.declared.deed.Deed.{Deed}
use Rattle.sy_order.specs.Nodes.{as_defined, nodes_by}
use Rattle.sy_order.specs.Texts.{position_of, text_with}
use Rattle.sy_order.specs.Machine.Names.{name_at}
use Rattle.sy_order.proofs.Numbering.{nodes_are_by_form}
use Rattle.sy_order.proofs.text.node_text.Goals as goal

-- with its position's name the text is the one of the definitions
text_is : (deed : Deed) (node : Node) → text_with node (name_at deed.positions (position_of node)) ≡ node_text deed node
text_is deed (Exert i) = refl
text_is deed (Trig i) = refl
text_is deed (Act i) = refl
text_is deed (End i) = refl
text_is deed Contract = refl

pub node-node-requires : goal.node-node-requires
node-node-requires c = subst (λ nodes. c.args.number < length nodes) (nodes_are_by_form c.args.deed.now ∙ sym (ap nodes_by c.requires.index)) c.requires.there

pub returns : goal.returns
returns c =
    let deed = c.args.deed.now in
    let node = as_defined c.node-node.result in
    let is = ap (λ nodes. slice_get nodes c.args.number) (nodes_are_by_form deed ∙ sym (ap nodes_by c.requires.index)) ∙ c.node-node.ensures in
    let name = c.name_at.ensures ∙ (ap (λ positions. name_at positions c.position.result) c.items.ensures ∙ ap (name_at deed.positions) c.position.ensures) in
    IfOk-weaker c.text.result _ _ (λ text e. ap Some (e ∙ (ap (text_with node) name ∙ text_is deed node)) ∙ sym (ap (option_map (node_text deed)) is)) c.text.ensures
