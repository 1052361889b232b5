-- When a value is one of an attribute's kind.
-- A number, a date and a constant are of their kind when they are in its range: a number is from -10^15 to 10^15, a date is from 1900-01-01
-- to 2999-12-31, and a constant is one of the enumeration that the kind names. A text and a Boolean have no range.
use Rattle.std.specs.Prelude.{ℕ, ◌^◌, ℤ, pos, neg_ℤ, Bool, true, false, ◌&&◌, ◌==◌, Option, Some, None, slice_get, length, nat_lt, int_le}
use Rattle.sy_base.specs.declared.time.TimeUnit.{TimeUnit}
use Rattle.sy_base.specs.Points.{least_point, greatest_point}
use Rattle.sy_core.specs.declared.value.Value.{Value}
use Rattle.sy_core.specs.declared.value.Value.TheVariants as V
use Rattle.sy_core.specs.declared.value.ValueKind.{ValueKind}
use Rattle.sy_core.specs.declared.value.ValueKind.TheVariants as K
use Rattle.sy_core.specs.declared.deed.Choices.{Choices}
use Rattle.sy_core.specs.declared.deed.Deed.{Deed}

-- the point is one of a date
abbrev pub is_dated : TimeUnit → ℤ → Bool
is_dated unit point = int_le (least_point unit) point && int_le point (greatest_point unit)

-- the number is from -10^15 to 10^15
abbrev pub is_in_range : ℤ → Bool
is_in_range n = int_le (neg_ℤ (pos (10 ^ 15))) n && int_le n (pos (10 ^ 15))

-- the enumeration has so many constants that this is one; if it isn't there it has none
abbrev pub is_constant_of : ℕ → Option Choices → Bool
is_constant_of constant None = false
is_constant_of constant (Some choices) = nat_lt constant (length choices.names)

-- the value is of the kind, and in its range
abbrev pub is_value_of : Deed → ValueKind → Value → Bool
is_value_of deed K.Number (V.Number n) = is_in_range n
is_value_of deed K.Text (V.Text bytes) = true
is_value_of deed K.Boolean (V.Boolean truth) = true
is_value_of deed K.Date (V.Date point) = is_dated deed.unit point
is_value_of deed (K.Choice e) (V.Choice f constant) = (e == f) && is_constant_of constant (slice_get deed.choices e)
is_value_of deed _ _ = false
