use Rattle.std.proofs.Common.{◌≡◌, sym, ◌∙◌}
use Rattle.sy_domain.specs.Failures.{fault_of}
use Rattle.sy_given.specs.Checks.{binding_checks}
use Rattle.sy_terms.specs.Checks.{binding_values_checks}
use Rattle.sy_bind.proofs.Faults.{refused_first, refused_then}
use Rattle.sy_bind.proofs.binding.fault.Goals as goal

pub returns-in-Some : goal.returns-in-Some
returns-in-Some c =
    refused_first c.args.plan.now c.args.tree.now c.in-Some.fault
    (sym c.in-Some.is ∙ c.in_ok-fault.ensures ∙ (λ j. fault_of (binding_checks (c.scope.ensures j) (c.tree.ensures.tree j) c.args.tree.now)))

pub returns-in_ok-values_fault-in-None : goal.returns-in_ok-values_fault-in-None
returns-in_ok-values_fault-in-None c =
    refused_then c.args.plan.now c.args.tree.now c.in_ok-values_fault-in-None.field-0
    (sym c.in-None.is ∙ c.in_ok-fault.ensures ∙ (λ j. fault_of (binding_checks (c.scope.ensures j) (c.tree.ensures.tree j) c.args.tree.now)))
    (c.in_ok-values_fault-in-None.ensures
    ∙ (λ j. fault_of (binding_values_checks (c.scope-in-None.ensures j) (c.requires j) (c.tree-in-None.ensures.tree j))))
