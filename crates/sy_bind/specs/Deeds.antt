-- The deed of a specification and a binding, and the fault of the binding.
use Rattle.std.specs.Prelude.{ℕ, ℤ, pos, List, Option, Some, None}
use Rattle.std.specs.Option.{option_or}
use Rattle.sy_base.specs.declared.time.TimeUnit.{TimeUnit}
use Rattle.sy_base.specs.declared.refusal.Refusal.{Refusal}
use Rattle.sy_core.specs.declared.deed.Deed.{Deed}
use Rattle.sy_spec.specs.declared.contract.SpecTree.{SpecTree}
use Rattle.sy_binding.specs.declared.tree.BindTree.{BindTree}
use Rattle.sy_domain.specs.Failures.{fault_of}
use Rattle.sy_scope.specs.Scopes.{things_of}
use Rattle.sy_literal.specs.Values.{date_point}
use Rattle.sy_typing.specs.Plans.{order_of_spec}
use Rattle.sy_given.specs.Bound.{bound_values}
use Rattle.sy_given.specs.Checks.{binding_checks}
use Rattle.sy_terms.specs.Checks.{binding_values_checks}
use Rattle.sy_terms.specs.Items.{Environment}
use Rattle.sy_terms.specs.Environments.{environment_of}
use Rattle.sy_events.specs.Declarations.{declared_by}
use Rattle.sy_lower.specs.Basis.{Basis}
use Rattle.sy_lower.specs.Positions.{positions, postconditions}

-- what is known of the names of a specification under a binding
abbrev pub environment_under : SpecTree → BindTree → Environment
environment_under spec tree =
    let s = things_of spec in environment_of s spec (bound_values s spec.contract.unit.unit spec tree)

-- the fault of a binding beside its specification: the first that the checks of the binding by itself find, and where there is none the first of
-- those that need the values of terms
unfoldable pub bind_fault : SpecTree → BindTree → Option Refusal
bind_fault spec tree =
    let s = things_of spec in
    option_or (fault_of (binding_checks s spec tree)) (fault_of (binding_values_checks s (environment_under spec tree) spec))

-- what the propositions of a specification are turned by under a binding
abbrev pub basis_of : SpecTree → BindTree → Basis
basis_of spec tree =
    let s = things_of spec in
    record { things = s; contract = spec.contract; environment = environment_under spec tree; declared = declared_by s spec }

-- the point that is there; a start that is no date of the unit is refused
abbrev pub point_or_zero : Option ℤ → ℤ
point_or_zero (Some point) = point
point_or_zero None = pos 0

-- the first point of a contract
abbrev pub start_of : TimeUnit → List ℕ → ℤ
start_of unit text = point_or_zero (date_point unit text)

-- the deed
unfoldable pub deed_of : SpecTree → BindTree → Deed
deed_of spec tree =
    let b = basis_of spec tree in
    record {
      unit = spec.contract.unit.unit;
      start = start_of spec.contract.unit.unit tree.start.text;
      events = b.declared.events;
      choices = b.declared.choices;
      positions = positions b;
      posts = postconditions b;
      order = order_of_spec spec;
    }
