use Rattle.std.proofs.Common.{◌≡◌, ℕ, List, None, ap, ◌∙◌}
use Rattle.sy_spec.specs.declared.contract.SpecTree.{SpecTree}
use Rattle.sy_scope.specs.Scopes.{Things}
use Rattle.sy_typing.proofs.Few.{few_positions}
use Rattle.sy_typing.proofs.FirstFault.{of_order, refuses_last}
use Rattle.sy_typing.proofs.Outlined.{few, planned, there}
use Rattle.sy_typing.proofs.planning.with_order.Goals as goal

pub outline-requires-clause-few : goal.outline-requires-clause-few
outline-requires-clause-few c = few_positions c.args.tree c.requires.texts

pub outline-requires-clause-types : goal.outline-requires-clause-types
outline-requires-clause-types c = c.ontology.ensures ∙ ap (λ (things : Things). things.domain) c.requires.scope

pub of_deed-requires : goal.of_deed-requires
of_deed-requires c = few c.args.tree c.in_ok-outline.outline c.in_ok-outline.ensures c.requires.texts

pub evaluated-requires-clause-few : goal.evaluated-requires-clause-few
evaluated-requires-clause-few c = few c.args.tree c.in_ok-outline.outline c.in_ok-outline.ensures c.requires.texts

pub evaluated-requires-clause-there : goal.evaluated-requires-clause-there
evaluated-requires-clause-there c = there c.args.tree c.in_ok-outline.outline c.in_ok-outline.ensures

pub of-requires : goal.of-requires
of-requires c =
    planned c.args.tree c.in_ok-outline.outline c.in_ok-outline.ensures _ _ _ c.requires.scope c.requires.domain c.requires.texts c.in-Ok.ensures.fault
    c.in_ok-index.ensures.forms c.in-Ok.ensures.listed

pub returns-in-Ok-clause-fault : goal.returns-in-Ok-clause-fault
returns-in-Ok-clause-fault c = of_order c.args.tree None c.requires.domain c.requires.texts c.in-Ok.ensures.fault

pub returns-in-Err-clause-fault : goal.returns-in-Err-clause-fault
returns-in-Err-clause-fault c = refuses_last (List ℕ) SpecTree c.args.tree c.in-Err.why c.requires.domain c.requires.texts c.in-Err.ensures.fault
