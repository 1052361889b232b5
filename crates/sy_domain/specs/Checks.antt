-- The checks of the domain part, in their order. Each is made over the whole specification.
use Rattle.std.specs.Prelude.{List, [], ◌∷◌}
use Rattle.sy_base.specs.declared.refusal.FaultName.TheVariants as Fault
use Rattle.sy_spec.specs.declared.contract.SpecTree.{SpecTree}
use Rattle.sy_domain.specs.Failures.{Check, of_spec}
use Rattle.sy_domain.specs.Names.{all_names}
use Rattle.sy_domain.specs.Attributes.{clashing}
use Rattle.sy_domain.specs.Chains.{cyclic_types}
use Rattle.sy_domain.specs.TypeNames.{unknown_types}

-- a name is declared that is there already or is a basic type, or an attribute repeats an own one of its type: at the second name
abbrev pub names_apart : SpecTree → Check
names_apart spec = of_spec Fault.DuplicateName (all_names spec).repeated

-- a base, or the type of an attribute, a parameter or a declaration, is no type: at that name
abbrev pub types_known : SpecTree → Check
types_known spec = of_spec Fault.UnknownName (unknown_types (all_names spec).table spec)

-- a type's isA chain reaches the type itself: at its name
abbrev pub chains_end : SpecTree → Check
chains_end spec = of_spec Fault.CyclicIsA (cyclic_types (all_names spec).table spec.domain.types)

-- an attribute has an inherited one's name, or a declaration gives an attribute twice: at that name
abbrev pub attributes_apart : SpecTree → Check
attributes_apart spec = of_spec Fault.DuplicateName (clashing (all_names spec).table spec)

-- the checks, in their order
abbrev pub domain_checks : SpecTree → List Check
domain_checks spec = names_apart spec ∷ types_known spec ∷ chains_end spec ∷ attributes_apart spec ∷ []
