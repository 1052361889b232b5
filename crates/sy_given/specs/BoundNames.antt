-- The names of a binding: those that are bound twice, those that are none of the contract's, and those that aren't bound.
use Rattle.std.specs.Prelude.{ℕ, is_some, if◌then◌else◌, codes, List, [], ◌∷◌, ◌++◌, map, slice_get, Option, Some, None}
use Rattle.std.specs.List.{flat_map}
use Rattle.std.specs.Map.{keys_of}
use Rattle.sy_spec.specs.declared.contract.ParamTree.{ParamTree}
use Rattle.sy_spec.specs.declared.contract.SpecTree.{SpecTree}
use Rattle.sy_binding.specs.declared.tree.BindTree.{BindTree}
use Rattle.sy_binding.specs.declared.tree.GivenTree.{GivenTree}
use Rattle.sy_binding.specs.declared.tree.FieldTree.{FieldTree}
use Rattle.sy_domain.specs.declared.failure.Failure.{Failure}
use Rattle.sy_domain.specs.declared.meaning.Sort.{Sort}
use Rattle.sy_domain.specs.declared.meaning.Meaning.{Meaning}
use Rattle.sy_domain.specs.declared.meaning.Meaning.TheVariants as M
use Rattle.sy_domain.specs.Failures.{at, unless}
use Rattle.sy_domain.specs.Names.{repeats}
use Rattle.sy_domain.specs.Ontologies.{members_in}
use Rattle.sy_scope.specs.Scopes.{Things, meaning_of, parameter_sort, plain_sort}
use Rattle.sy_given.specs.Givens.{fields_of, gives_field, given_to}

-- the names that are bound twice
abbrev pub repeated_names : BindTree → List Failure
repeated_names tree = repeats [] (map (λ g. g.name) tree.parameters)

-- the names that are bound twice within one pair of braces
abbrev pub repeated_fields : GivenTree → List Failure
repeated_fields g = repeats [] (map (λ f. f.name) (fields_of g.bound))

-- the sort of the parameter that a name stands for
abbrev pub sort_if_parameter : Things → Option Meaning → Option Sort
sort_if_parameter s (Some (M.Parameter i)) = slice_get s.parameters i
sort_if_parameter s _ = None

abbrev pub sort_of_parameter : Things → List ℕ → Option Sort
sort_of_parameter s name = sort_if_parameter s (meaning_of s name)

-- a name within the braces of a parameter that is no attribute of it
abbrev pub extra_field : Things → Sort → FieldTree → List Failure
extra_field s sort f = unless (is_some (plain_sort s sort f.name.text)) f.name

-- a bound name that is no parameter, and those within its braces that are no attributes of it
abbrev pub extra_by : Things → GivenTree → Option Sort → List Failure
extra_by s g None = at g.name ∷ []
extra_by s g (Some sort) = flat_map (extra_field s sort) (fields_of g.bound)

abbrev pub extra : Things → GivenTree → List Failure
extra s g = extra_by s g (sort_of_parameter s g.name.text)

-- the bound names that are no parameters, or no attributes of theirs
abbrev pub extra_names : Things → BindTree → List Failure
extra_names s tree = flat_map (extra s) tree.parameters

-- the failure that a name isn't there: it stands at no place
abbrev pub absent : List ℕ → Failure
absent name = record { place = None; words = name }

-- the names of the attributes of a parameter, the inherited ones first
abbrev pub attribute_names : Things → ParamTree → List (List ℕ)
attribute_names s p = keys_of (members_in s.domain (parameter_sort s.domain.table p))

-- an attribute of a parameter that none of the fields gives
abbrev pub missing_attribute : List ℕ → List FieldTree → List ℕ → List Failure
missing_attribute parameter fields attribute =
    if gives_field attribute fields then [] else absent (parameter ++ codes "." ++ attribute) ∷ []

-- a parameter that isn't bound, and where it is bound those of its attributes that aren't
abbrev pub missing_in : Things → ParamTree → Option GivenTree → List Failure
missing_in s p None = absent p.name.text ∷ []
missing_in s p (Some g) = flat_map (missing_attribute p.name.text (fields_of g.bound)) (attribute_names s p)

abbrev pub missing : Things → List GivenTree → ParamTree → List Failure
missing s givens p = missing_in s p (given_to givens p.name.text)

-- the parameters that aren't bound, each followed by its attributes, in the order of declaration
abbrev pub missing_names : Things → SpecTree → BindTree → List Failure
missing_names s spec tree = flat_map (missing s tree.parameters) spec.contract.parameters
