-- What a binding gives, and to which names.
use Rattle.std.specs.Prelude.{ℕ, Bool, List, [], ◌∷◌, map, Option, Some, None}
use Rattle.std.specs.List.{find, flat_map, list_any}
use Rattle.sy_binding.specs.declared.tree.BindTree.{BindTree}
use Rattle.sy_binding.specs.declared.tree.GivenTree.{GivenTree}
use Rattle.sy_binding.specs.declared.tree.BoundTree.{BoundTree}
use Rattle.sy_binding.specs.declared.tree.BoundTree.TheVariants as Bound
use Rattle.sy_binding.specs.declared.tree.FieldTree.{FieldTree}
use Rattle.sy_binding.specs.declared.tree.ValueTree.{ValueTree}
use Rattle.sy_domain.specs.Names.{same}

-- something is given to the name
abbrev pub gives_to : List ℕ → GivenTree → Bool
gives_to name g = same name g.name.text

-- what is given to a name: the first of what is given
abbrev pub given_to : List GivenTree → List ℕ → Option GivenTree
given_to givens name = find (gives_to name) givens

-- what stands within the braces, where there are any
abbrev pub fields_of : BoundTree → List FieldTree
fields_of (Bound.Value v) = []
fields_of (Bound.Attributes place fields) = fields

-- one of the fields is of the name
abbrev pub has_field_name : List ℕ → FieldTree → Bool
has_field_name name f = same name f.name.text

abbrev pub gives_field : List ℕ → List FieldTree → Bool
gives_field name fields = list_any (has_field_name name) fields

-- the values that are written there
abbrev pub values_of : BoundTree → List ValueTree
values_of (Bound.Value v) = v ∷ []
values_of (Bound.Attributes place fields) = map (λ f. f.value) fields

-- the same of what is given to a name
abbrev pub values_in : GivenTree → List ValueTree
values_in g = values_of g.bound

-- all values of a binding
abbrev pub all_values : BindTree → List ValueTree
all_values tree = flat_map values_in tree.parameters
