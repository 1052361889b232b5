use Rattle.std.proofs.Common.{◌++◌, ◌∙◌, ap, append_assoc}
use Rattle.std.specs.List.{flat_map}
use Rattle.std.proofs.lemmas.List.Folds.{flat_map-map}
use Rattle.sy_core.specs.declared.kind.Target.TheVariants.{Position}
use Rattle.sy_core.specs.Conditions.{remedies_of}
use Rattle.sy_core.specs.Prerequisites.{obligation_nodes}
use Rattle.sy_order.proofs.Parts.{all_added}
use Rattle.sy_order.proofs.needs.push_with_remedies.Goals as goal

pub returns : goal.returns
returns c =
    let l = c.loop-remedy in
    let items = c.remedies-remedy-items.result.now in
    let whole = all_added obligation_nodes items l.remedy-index l.nodes _ c.loop-remedy-test.false l.invariant in
    let a = ap (flat_map obligation_nodes) c.remedies-remedy-items.ensures ∙ flat_map-map obligation_nodes (λ n. n.0) (remedies_of c.args.table.now (Position c.args.number)) in
    whole ∙ (ap (λ old. old ++ flat_map obligation_nodes items) c.in_ok-push_obligation.ensures ∙ (append_assoc c.args.nodes.now (obligation_nodes c.args.number) (flat_map obligation_nodes items) ∙ ap (λ more. c.args.nodes.now ++ (obligation_nodes c.args.number ++ more)) a))
