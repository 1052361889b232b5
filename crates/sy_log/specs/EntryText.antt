-- The line of a log that tells a happening.
use Rattle.std.specs.Prelude.{ℕ, Bool, true, false, codes, if◌then◌else◌, List, [], ◌∷◌, ◌++◌, Option, Some, None, slice_get}
use Rattle.std.specs.List.{flat_map}
use Rattle.std.specs.Fmt.{signed_decimal}
use Rattle.sy_base.specs.Dates.{date_text}
use Rattle.sy_lex.specs.Bytes.{is_escaped}
use Rattle.sy_core.specs.declared.happening.What.{What}
use Rattle.sy_core.specs.declared.happening.What.TheVariants as W
use Rattle.sy_core.specs.declared.happening.Happening.{Happening}
use Rattle.sy_core.specs.declared.value.Value.{Value}
use Rattle.sy_core.specs.declared.value.Value.TheVariants as V
use Rattle.sy_core.specs.declared.deed.AttrDecl.{AttrDecl}
use Rattle.sy_core.specs.declared.deed.Choices.{Choices}
use Rattle.sy_core.specs.declared.deed.EventDecl.{EventDecl}
use Rattle.sy_core.specs.declared.deed.Deed.{Deed}
use Rattle.sy_core.specs.declared.position.Position.{Position}

-- a byte of a text between quotes: behind a `\` where it is `"` or `\`
abbrev pub escaped : ℕ → List ℕ
escaped b = if is_escaped b then 92 ∷ b ∷ [] else b ∷ []

-- a text between quotes
abbrev pub quoted : List ℕ → List ℕ
quoted bytes = codes "\"" ++ flat_map escaped bytes ++ codes "\""

-- the word of a truth value
abbrev pub truth_word : Bool → List ℕ
truth_word true = codes "true"
truth_word false = codes "false"

-- a name, or nothing where there is none
abbrev pub name_or_nothing : Option (List ℕ) → List ℕ
name_or_nothing None = []
name_or_nothing (Some name) = name

-- the name of the constant with a number, of the enumeration that is there
abbrev pub constant_name : Option Choices → ℕ → List ℕ
constant_name None constant = []
constant_name (Some choices) constant = name_or_nothing (slice_get choices.names constant)

-- a value, as a line writes it
abbrev pub value_text : Deed → Value → List ℕ
value_text deed (V.Number n) = signed_decimal n
value_text deed (V.Text bytes) = quoted bytes
value_text deed (V.Boolean truth) = truth_word truth
value_text deed (V.Date point) = date_text deed.unit point
value_text deed (V.Choice of constant) = constant_name (slice_get deed.choices of) constant

-- an attribute and its value
abbrev pub field_text : Deed → AttrDecl → Value → List ℕ
field_text deed attr value = attr.name ++ codes " := " ++ value_text deed value

-- further attributes with their values, each behind a comma
abbrev pub more_text : Deed → List AttrDecl → List Value → List ℕ
more_text deed (attr ∷ attrs) (value ∷ values) = codes ", " ++ field_text deed attr value ++ more_text deed attrs values
more_text deed _ _ = []

-- the attributes with their values between brackets, or nothing where there are none
abbrev pub fields_text : Deed → List AttrDecl → List Value → List ℕ
fields_text deed (attr ∷ attrs) (value ∷ values) =
    codes "[" ++ field_text deed attr value ++ more_text deed attrs values ++ codes "]"
fields_text deed _ _ = []

-- the event that is there, with the values of its attributes
abbrev pub event_text : Deed → Option EventDecl → List Value → List ℕ
event_text deed None values = []
event_text deed (Some event) values = event.name ++ fields_text deed event.attrs values

-- the name of the position that is there
abbrev pub position_name : Option Position → List ℕ
position_name None = []
position_name (Some p) = p.name

-- what happens
abbrev pub what_text : Deed → What → List ℕ
what_text deed (W.Event event values) = codes "happens " ++ event_text deed (slice_get deed.events event) values
what_text deed (W.Exert power) = codes "exert " ++ position_name (slice_get deed.positions power)

-- the line of a happening
abbrev pub entry_text : Deed → Happening → List ℕ
entry_text deed happening =
    codes "at " ++ date_text deed.unit happening.point ++ codes " " ++ what_text deed happening.what
