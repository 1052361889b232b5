use Rattle.std.proofs.Common.{◌≡◌, ◌∙◌, ap}
use Rattle.std.proofs.lemmas.Result.{IfOk-weaker}
use Rattle.sy_base.specs.declared.refusal.FaultName.TheVariants as Fault
use Rattle.sy_domain.specs.Failures.{of_spec, refusal_of}
use Rattle.sy_names.specs.UnknownNames.{unknown_names}
use Rattle.sy_typing.proofs.faults.names.Goals as goal

pub returns : goal.returns
returns c =
    let spec = c.args.tree.now in
    IfOk-weaker c.refusal.result _ _
    (λ r e. e ∙ ap (λ failures. refusal_of (of_spec Fault.UnknownName failures))
    (c.items.ensures ∙ (c.in_ok-found.ensures ∙ ap (λ s. unknown_names s spec) c.requires)))
    c.refusal.ensures
