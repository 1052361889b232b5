-- The values of a binding that aren't of their types.
use Rattle.std.specs.Prelude.{ℕ, Bool, true, false, not, nat_eq, codes, List, [], ◌++◌, Option, Some, None}
use Rattle.std.specs.List.{flat_map}
use Rattle.sy_lex.specs.declared.written.Written.{Written}
use Rattle.sy_binding.specs.declared.tree.BindTree.{BindTree}
use Rattle.sy_binding.specs.declared.tree.GivenTree.{GivenTree}
use Rattle.sy_binding.specs.declared.tree.BoundTree.{BoundTree}
use Rattle.sy_binding.specs.declared.tree.BoundTree.TheVariants as Bound
use Rattle.sy_binding.specs.declared.tree.FieldTree.{FieldTree}
use Rattle.sy_binding.specs.declared.tree.ValueTree.{ValueTree}
use Rattle.sy_binding.specs.declared.tree.ValueTree.TheVariants as Value
use Rattle.sy_domain.specs.declared.failure.Failure.{Failure}
use Rattle.sy_domain.specs.declared.meaning.Sort.{Sort}
use Rattle.sy_domain.specs.declared.meaning.Sort.TheVariants as S
use Rattle.sy_domain.specs.declared.meaning.Meaning.{Meaning}
use Rattle.sy_domain.specs.declared.meaning.Meaning.TheVariants as M
use Rattle.sy_domain.specs.Failures.{unless}
use Rattle.sy_scope.specs.Scopes.{Things, is_value, meaning_of, plain_sort}
use Rattle.sy_scope.specs.Tokens.{truth_token, written}
use Rattle.sy_given.specs.BoundNames.{sort_of_parameter}

-- the first token of a value
abbrev pub value_token : ValueTree → Written
value_token (Value.Number n) = n
value_token (Value.Negative place n) = written (codes "-") place
value_token (Value.Str t) = t
value_token (Value.Date t) = t
value_token (Value.Const truth place) = truth_token truth place
value_token (Value.Name x) = x

-- a name stands for a constant of the type with a number
abbrev pub is_constant_of : ℕ → Option Meaning → Bool
is_constant_of n (Some (M.Constant of i)) = nat_eq of n
is_constant_of n _ = false

-- a value is of a sort; none is of a role or an asset type
abbrev pub is_of : Things → Sort → ValueTree → Bool
is_of s S.Number (Value.Number n) = true
is_of s S.Number (Value.Negative place n) = true
is_of s S.Text (Value.Str t) = true
is_of s S.Boolean (Value.Const truth place) = true
is_of s S.Date (Value.Date t) = true
is_of s (S.Declared n) (Value.Name x) = is_constant_of n (meaning_of s x.text)
is_of s _ _ = false

-- a value that isn't of its sort
abbrev pub wrong_value : Things → Sort → ValueTree → List Failure
wrong_value s sort v = unless (is_of s sort v) (value_token v)

-- a value of an attribute
abbrev pub wrong_if : Things → Option Sort → ValueTree → List Failure
wrong_if s (Some sort) v = wrong_value s sort v
wrong_if s None v = []

abbrev pub wrong_field : Things → Sort → FieldTree → List Failure
wrong_field s sort f = wrong_if s (plain_sort s sort f.name.text) f.value

-- what a parameter of a sort is bound to: one that has one value may have no braces
abbrev pub wrong_bound : Things → Sort → BoundTree → List Failure
wrong_bound s sort (Bound.Value v) = wrong_value s sort v
wrong_bound s sort (Bound.Attributes place fields) =
    unless (not (is_value s sort)) (written (codes "{") place) ++ flat_map (wrong_field s sort) fields

abbrev pub wrong_given : Things → Option Sort → BoundTree → List Failure
wrong_given s (Some sort) bound = wrong_bound s sort bound
wrong_given s None bound = []

abbrev pub wrong : Things → GivenTree → List Failure
wrong s g = wrong_given s (sort_of_parameter s g.name.text) g.bound

-- the values that aren't of the types of their parameters and attributes
abbrev pub wrong_values : Things → BindTree → List Failure
wrong_values s tree = flat_map (wrong s) tree.parameters
