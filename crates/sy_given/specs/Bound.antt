-- What the parameters of a contract are bound to. Where the checks of the binding find a fault, nothing is known of a value.
use Rattle.std.specs.Prelude.{ℕ, ℤ, pos, neg_ℤ, List, [], map, Option, Some, None, option_map}
use Rattle.std.specs.List.{fold}
use Rattle.indexmap.specs.IndexMap.{insert_entry}
use Rattle.sy_base.specs.declared.time.TimeUnit.{TimeUnit}
use Rattle.sy_lex.specs.declared.written.Written.{Written}
use Rattle.sy_spec.specs.declared.contract.ParamTree.{ParamTree}
use Rattle.sy_spec.specs.declared.contract.SpecTree.{SpecTree}
use Rattle.sy_binding.specs.declared.tree.BindTree.{BindTree}
use Rattle.sy_binding.specs.declared.tree.GivenTree.{GivenTree}
use Rattle.sy_binding.specs.declared.tree.BoundTree.{BoundTree}
use Rattle.sy_binding.specs.declared.tree.BoundTree.TheVariants as Tree
use Rattle.sy_binding.specs.declared.tree.FieldTree.{FieldTree}
use Rattle.sy_binding.specs.declared.tree.ValueTree.{ValueTree}
use Rattle.sy_binding.specs.declared.tree.ValueTree.TheVariants as Value
use Rattle.sy_domain.specs.declared.meaning.Meaning.{Meaning}
use Rattle.sy_domain.specs.declared.meaning.Meaning.TheVariants as M
use Rattle.sy_domain.specs.Names.{same}
use Rattle.sy_scope.specs.Scopes.{Things, meaning_of}
use Rattle.sy_literal.specs.Values.{date_point, number_in_range, text_content}
use Rattle.sy_given.specs.declared.known.Known.{Known}
use Rattle.sy_given.specs.declared.known.Known.TheVariants as K
use Rattle.sy_given.specs.declared.known.Bound.{Bound}
use Rattle.sy_given.specs.declared.known.Bound.TheVariants as B
use Rattle.sy_given.specs.Givens.{given_to}

-- the number that a token writes, where it is at most 10^15
abbrev pub written_number : Written → Option ℤ
written_number n = option_map (λ m. pos m) (number_in_range n.text)

-- the constant that a name stands for
abbrev pub constant : Option Meaning → Option Known
constant (Some (M.Constant of i)) = Some (K.Constant of i)
constant _ = None

-- the value that is written: a number, a text, a date that the unit has, a truth value or a constant
abbrev pub known : Things → TimeUnit → ValueTree → Option Known
known s unit (Value.Number n) = option_map (λ m. K.Number m) (written_number n)
known s unit (Value.Negative place n) = option_map (λ m. K.Number (neg_ℤ m)) (written_number n)
known s unit (Value.Str t) = Some (K.Text (text_content t.text))
known s unit (Value.Date t) = option_map (λ p. K.Date p) (date_point unit t.text)
known s unit (Value.Const truth place) = Some (K.Boolean truth)
known s unit (Value.Name x) = constant (meaning_of s x.text)

-- values by their names, and one more of them
abbrev pub put : List (List ℕ × Known) → List ℕ → Option Known → List (List ℕ × Known)
put values name (Some value) = insert_entry same values name value
put values name None = values

-- the same of what is written within braces
abbrev pub put_field : Things → TimeUnit → List (List ℕ × Known) → FieldTree → List (List ℕ × Known)
put_field s unit values f = put values f.name.text (known s unit f.value)

-- nothing is known
abbrev pub nothing : Bound
nothing = B.Fields []

abbrev pub value_or_nothing : Option Known → Bound
value_or_nothing (Some value) = B.Value value
value_or_nothing None = nothing

-- one value, or the values of attributes by their names
abbrev pub bound : Things → TimeUnit → BoundTree → Bound
bound s unit (Tree.Value v) = value_or_nothing (known s unit v)
bound s unit (Tree.Attributes place fields) = B.Fields (fold (put_field s unit) [] fields)

abbrev pub bound_or_nothing : Things → TimeUnit → Option GivenTree → Bound
bound_or_nothing s unit (Some g) = bound s unit g.bound
bound_or_nothing s unit None = nothing

-- what a parameter is bound to
abbrev pub bound_value : Things → TimeUnit → List GivenTree → ParamTree → Bound
bound_value s unit givens p = bound_or_nothing s unit (given_to givens p.name.text)

-- what each parameter is bound to, by its number in the order of declaration
abbrev pub bound_values : Things → TimeUnit → SpecTree → BindTree → List Bound
bound_values s unit spec tree = map (bound_value s unit tree.parameters) spec.contract.parameters
