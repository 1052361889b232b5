use Rattle.std.proofs.Common.{◌≡◌, ◌∙◌, ap}
use Rattle.std.proofs.lemmas.Result.{IfOk-weaker}
use Rattle.sy_base.specs.declared.refusal.FaultName.TheVariants as Fault
use Rattle.sy_domain.specs.Failures.{of_spec, refusal_of}
use Rattle.sy_types.specs.WrongTypes.{wrong_types}
use Rattle.sy_typing.proofs.faults.types.Goals as goal

pub returns : goal.returns
returns c =
    let spec = c.args.tree.now in
    IfOk-weaker c.refusal.result _ _
    (λ r e. e ∙ ap (λ failures. refusal_of (of_spec Fault.WrongType failures))
    (c.items.ensures ∙ (c.in_ok-found.ensures ∙ ap (λ s. wrong_types s spec) c.requires)))
    c.refusal.ensures
