-- Known values as those of a deed.
use Rattle.std.specs.Prelude.{ℕ, List, Option, Some, None, option_map, option_and_then}
use Rattle.sy_core.specs.declared.value.Value.{Value}
use Rattle.sy_core.specs.declared.value.Value.TheVariants as V
use Rattle.sy_core.specs.declared.value.ValueKind.{ValueKind}
use Rattle.sy_core.specs.declared.deed.Deed.{Deed}
use Rattle.sy_core.specs.Values.{is_value_of}
use Rattle.sy_given.specs.declared.known.Known.{Known}
use Rattle.sy_given.specs.declared.known.Known.TheVariants as K
use Rattle.sy_terms.specs.declared.item.Item.{Item}
use Rattle.sy_terms.specs.declared.item.Item.TheVariants as I
use Rattle.sy_events.specs.Events.{number_at}
use Rattle.sy_lower.specs.Parts.{that_passes}

-- the value, by the numbers of the enumerations
abbrev pub value_of : List (Option ℕ) → Known → Option Value
value_of numbers (K.Number n) = Some (V.Number n)
value_of numbers (K.Text bytes) = Some (V.Text bytes)
value_of numbers (K.Boolean truth) = Some (V.Boolean truth)
value_of numbers (K.Date point) = Some (V.Date point)
value_of numbers (K.Constant of i) = option_map (λ e. V.Choice e i) (number_at numbers of)

-- the value that an item is, where it is one of a kind, and in its range
abbrev pub value_as : Deed → List (Option ℕ) → ValueKind → Option Item → Option Value
value_as deed numbers kind (Some (I.Value known)) = option_and_then (that_passes (is_value_of deed kind)) (value_of numbers known)
value_as deed numbers kind _ = None
