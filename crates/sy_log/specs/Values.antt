-- The values that a line gives to the attributes of an event.
use Rattle.std.specs.Prelude.{ℕ, ℤ, pos, neg_ℤ, Bool, nat_eq, if◌then◌else◌, List, [], ◌∷◌, Option, Some, None, option_map, option_and_then, slice_get}
use Rattle.std.specs.List.{list_any, list_all, position_from}
use Rattle.std.specs.Cmp.Lexicographic.{pointwise}
use Rattle.sy_lex.specs.declared.written.Written.{Written}
use Rattle.sy_core.specs.declared.value.Value.{Value}
use Rattle.sy_core.specs.declared.value.Value.TheVariants as V
use Rattle.sy_core.specs.declared.value.ValueKind.{ValueKind}
use Rattle.sy_core.specs.declared.value.ValueKind.TheVariants as K
use Rattle.sy_core.specs.declared.deed.AttrDecl.{AttrDecl}
use Rattle.sy_core.specs.declared.deed.Choices.{Choices}
use Rattle.sy_core.specs.declared.deed.Deed.{Deed}
use Rattle.sy_binding.specs.declared.tree.FieldTree.{FieldTree}
use Rattle.sy_binding.specs.declared.tree.ValueTree.{ValueTree}
use Rattle.sy_binding.specs.declared.tree.ValueTree.TheVariants as T
use Rattle.sy_literal.specs.Values.{date_point, number_in_range, text_content}

-- two names are the same
abbrev pub same : List ℕ → List ℕ → Bool
same = pointwise nat_eq

-- the number that digits write, where it is at most 10^15
abbrev pub written_number : Written → Option ℤ
written_number n = option_map (λ m. pos m) (number_in_range n.text)

-- the place of the constant with a name
abbrev pub constant_named : List ℕ → Choices → Option ℕ
constant_named name choices = position_from (same name) 0 choices.names

-- the constant of an enumeration that has a name
abbrev pub constant : Deed → ℕ → List ℕ → Option Value
constant deed of name = option_map (λ i. V.Choice of i) (option_and_then (constant_named name) (slice_get deed.choices of))

-- the value that is written, where it is one of the kind
abbrev pub value_of : Deed → ValueKind → ValueTree → Option Value
value_of deed K.Number (T.Number n) = option_map (λ m. V.Number m) (written_number n)
value_of deed K.Number (T.Negative place n) = option_map (λ m. V.Number (neg_ℤ m)) (written_number n)
value_of deed K.Text (T.Str t) = Some (V.Text (text_content t.text))
value_of deed K.Boolean (T.Const truth place) = Some (V.Boolean truth)
value_of deed K.Date (T.Date t) = option_map (λ p. V.Date p) (date_point deed.unit t.text)
value_of deed (K.Choice of) (T.Name x) = constant deed of x.text
value_of deed _ _ = None

-- the field gives a value to the name
abbrev pub gives : List ℕ → FieldTree → Bool
gives name f = same name f.name.text

-- the value that the fields give to a name, where exactly one gives it one
abbrev pub given_once : List ℕ → List FieldTree → Option ValueTree
given_once name [] = None
given_once name (f ∷ fields) =
    if gives name f
    then (if list_any (gives name) fields then None else Some f.value)
    else given_once name fields

-- the value of an attribute
abbrev pub value_given : Deed → List FieldTree → AttrDecl → Option Value
value_given deed fields attr = option_and_then (value_of deed attr.kind) (given_once attr.name fields)

-- a value in front of others, where all are there
abbrev pub with_first : Option Value → Option (List Value) → Option (List Value)
with_first (Some value) (Some values) = Some (value ∷ values)
with_first (Some value) None = None
with_first None values = None

-- the value of each attribute, where each has one
abbrev pub all_given : Deed → List FieldTree → List AttrDecl → Option (List Value)
all_given deed fields [] = Some []
all_given deed fields (attr ∷ attrs) = with_first (value_given deed fields attr) (all_given deed fields attrs)

-- the field names one of the attributes
abbrev pub is_attribute : List AttrDecl → FieldTree → Bool
is_attribute attrs f = list_any (λ attr. gives attr.name f) attrs

-- the values of the attributes, in their order, where the fields name no others
abbrev pub values_given : Deed → List AttrDecl → List FieldTree → Option (List Value)
values_given deed attrs fields =
    if list_all (is_attribute attrs) fields then all_given deed fields attrs else None
