-- The checks of a binding, in their order. Each is made over the whole binding.
use Rattle.std.specs.Prelude.{List, [], ◌∷◌}
use Rattle.std.specs.List.{flat_map}
use Rattle.sy_base.specs.declared.refusal.FaultName.{FaultName}
use Rattle.sy_base.specs.declared.refusal.FaultName.TheVariants as Fault
use Rattle.sy_base.specs.declared.refusal.FileKind.TheVariants as File
use Rattle.sy_spec.specs.declared.contract.SpecTree.{SpecTree}
use Rattle.sy_binding.specs.declared.tree.BindTree.{BindTree}
use Rattle.sy_domain.specs.declared.failure.Failure.{Failure}
use Rattle.sy_domain.specs.Failures.{Check}
use Rattle.sy_scope.specs.Scopes.{Things}
use Rattle.sy_given.specs.BoundNames.{extra_names, missing_names, repeated_fields, repeated_names}
use Rattle.sy_given.specs.BoundTypes.{wrong_values}
use Rattle.sy_given.specs.BoundLiterals.{bad_dates, great_numbers}

-- a check of a binding
abbrev pub of_binding : FaultName → List Failure → Check
of_binding name failures = record { file = File.Bind; name = name; failures = failures }

-- a name is bound twice: at the second name
abbrev pub parameters_apart : BindTree → Check
parameters_apart tree = of_binding Fault.DuplicateParam (repeated_names tree)

-- a name is bound twice within one pair of braces: at the second name
abbrev pub fields_apart : BindTree → Check
fields_apart tree = of_binding Fault.DuplicateParam (flat_map repeated_fields tree.parameters)

-- a bound name is no parameter, or no attribute of one: at that name
abbrev pub names_known : Things → BindTree → Check
names_known s tree = of_binding Fault.ExtraParam (extra_names s tree)

-- a parameter or an attribute of one isn't bound: at no place
abbrev pub all_bound : Things → SpecTree → BindTree → Check
all_bound s spec tree = of_binding Fault.MissingParam (missing_names s spec tree)

-- a value isn't of its type: at its first token
abbrev pub values_fit : Things → BindTree → Check
values_fit s tree = of_binding Fault.WrongParamType (wrong_values s tree)

-- the start or another date has a fault in the unit of the contract: at that date
abbrev pub dates_fit : SpecTree → BindTree → Check
dates_fit spec tree = of_binding Fault.BadDate (bad_dates spec.contract.unit.unit tree)

-- a number is above 10^15: at that number
abbrev pub numbers_fit : BindTree → Check
numbers_fit tree = of_binding Fault.NumberOutOfRange (great_numbers tree)

-- the checks, in their order
abbrev pub binding_checks : Things → SpecTree → BindTree → List Check
binding_checks s spec tree =
    parameters_apart tree ∷ fields_apart tree ∷ names_known s tree ∷ all_bound s spec tree ∷ values_fit s tree
    ∷ dates_fit spec tree ∷ numbers_fit tree ∷ []
