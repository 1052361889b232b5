-- The fault of a binding, by what the two groups of checks find.
use Rattle.std.proofs.Common.{◌≡◌, Option, Some, None, sym, ap, ◌∙◌}
use Rattle.std.specs.Option.{option_or}
use Rattle.sy_base.specs.declared.refusal.Refusal.{Refusal}
use Rattle.sy_spec.specs.declared.contract.SpecTree.{SpecTree}
use Rattle.sy_binding.specs.declared.tree.BindTree.{BindTree}
use Rattle.sy_domain.specs.Failures.{fault_of}
use Rattle.sy_scope.specs.Scopes.{things_of}
use Rattle.sy_given.specs.Checks.{binding_checks}
use Rattle.sy_terms.specs.Checks.{binding_values_checks}
use Rattle.sy_bind.specs.Deeds.{bind_fault, environment_under}

module _ (spec : SpecTree) (tree : BindTree) where
  abbrev own_fault : Option Refusal
  own_fault = fault_of (binding_checks (things_of spec) spec tree)

  abbrev later_fault : Option Refusal
  later_fault = fault_of (binding_values_checks (things_of spec) (environment_under spec tree) spec)

  -- the checks of the binding by itself find one
  pub refused_first : (r : Refusal) → Some r ≡ own_fault → Some r ≡ bind_fault spec tree
  unfolding bind_fault
  refused_first r is = ap (λ o. option_or o later_fault) is

  -- they find none
  pub refused_then : (found : Option Refusal) → None ≡ own_fault → found ≡ later_fault → found ≡ bind_fault spec tree
  unfolding bind_fault
  refused_then found none is = is ∙ ap (λ o. option_or o later_fault) none
