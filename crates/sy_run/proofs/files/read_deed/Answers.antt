use Rattle.std.proofs.Common.{◌∙◌}
use Rattle.std.proofs.lemmas.Result.{err_from_is_err_and}
use Rattle.sy_run.specs.Texts.{IsBindingIn, IsDeedIn, IsSoundSpecIn}
use Rattle.sy_run.proofs.Texts.{told_too, stopped_by_binding, stopped_by_spec, with_binding}
use Rattle.sy_run.proofs.files.read_deed.Goals as goal

pub returns-in_err-plan-clause-told : goal.returns-in_err-plan-clause-told
returns-in_err-plan-clause-told g c = λ s b spec bind.
    let p = err_from_is_err_and c.from_residual.result c.from_residual.ensures.1 in
    rw (p.1, p.2) (told_too (IsSoundSpecIn s) (IsDeedIn s b) (stopped_by_spec s b) c.in_err-plan.field-0.0 (c.in_err-plan.ensures.told s spec))

pub returns-in_err-tree-clause-told : goal.returns-in_err-tree-clause-told
returns-in_err-tree-clause-told g c = λ s b spec bind.
    let p = err_from_is_err_and c.from_residual-in_err-tree.result c.from_residual-in_err-tree.ensures.1 in
    rw (p.1, p.2) (told_too (IsBindingIn b) (IsDeedIn s b) (stopped_by_binding s b c.in_ok-plan.plan (c.in_ok-plan.ensures.told s spec))
    c.in_err-tree.field-0.0 (c.in_err-tree.ensures.told b (c.read_plan.ensures.tells c.args.bind.now ∙ bind)))

pub returns-clause-told : goal.returns-clause-told
returns-clause-told g c = λ s b spec bind.
    with_binding s b c.in_ok-plan.plan (c.in_ok-plan.ensures.told s spec) c.in_ok-tree.tree
    (c.in_ok-tree.ensures.told b (c.read_plan.ensures.tells c.args.bind.now ∙ bind)) c.deed_of.result c.deed_of.ensures.told
