-- When a happening is one of a deed.
use Rattle.std.specs.Prelude.{ℕ, Bool, true, false, not, ◌&&◌, nat_le, List, [], ◌∷◌, length, Option, Some, None, slice_get, IsTrue}
use Rattle.std.specs.List.{list_all}
use Rattle.sy_base.specs.Points.{IsDated}
use Rattle.sy_lex.specs.Bytes.{is_newline}
use Rattle.sy_core.specs.declared.happening.What.{What}
use Rattle.sy_core.specs.declared.happening.What.TheVariants as W
use Rattle.sy_core.specs.declared.happening.Happening.{Happening}
use Rattle.sy_core.specs.declared.value.Value.{Value}
use Rattle.sy_core.specs.declared.value.Value.TheVariants as V
use Rattle.sy_core.specs.declared.value.ValueKind.{ValueKind}
use Rattle.sy_core.specs.declared.deed.AttrDecl.{AttrDecl}
use Rattle.sy_core.specs.declared.deed.EventDecl.{EventDecl}
use Rattle.sy_core.specs.declared.deed.Deed.{Deed}
use Rattle.sy_core.specs.Conditions.{is_power}
use Rattle.sy_core.specs.Soundness.{form_passes}
use Rattle.sy_core.specs.Values.{is_value_of}

-- what a text between quotes can hold: at most 256 bytes, and no newline
abbrev pub is_content : List ℕ → Bool
is_content bytes = nat_le (length bytes) 256 && list_all (λ b. not (is_newline b)) bytes

-- a line has room for the value: a text is one that can stand between quotes
abbrev pub is_writable : Value → Bool
is_writable (V.Text bytes) = is_content bytes
is_writable (V.Number n) = true
is_writable (V.Boolean truth) = true
is_writable (V.Date point) = true
is_writable (V.Choice of constant) = true

-- the value is of the kind, and can be told in a line
abbrev pub is_told_value : Deed → ValueKind → Value → Bool
is_told_value deed kind value = is_value_of deed kind value && is_writable value

-- each attribute has a value of its kind, which can be told in a line
abbrev pub are_values_of : Deed → List AttrDecl → List Value → Bool
are_values_of deed [] [] = true
are_values_of deed (attr ∷ attrs) (value ∷ values) =
    is_told_value deed attr.kind value && are_values_of deed attrs values
are_values_of deed _ _ = false

-- the event is there, and its attributes have these values
abbrev pub are_values_at : Deed → Option EventDecl → List Value → Bool
are_values_at deed None values = false
are_values_at deed (Some event) values = are_values_of deed event.attrs values

-- it is an event that is there, with its values, or the exertion of a power that is there
abbrev pub is_what_of : Deed → What → Bool
is_what_of deed (W.Event event values) = are_values_at deed (slice_get deed.events event) values
is_what_of deed (W.Exert power) = form_passes is_power (slice_get deed.positions power)

-- it is one of the deed, at a date
pub record IsOfDeed (deed : Deed) (happening : Happening) : Type 0 where
  pub what : IsTrue (is_what_of deed happening.what)
  pub dated : IsDated deed.unit happening.point
