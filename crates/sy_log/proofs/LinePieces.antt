-- The pieces that the line of a happening is put together of.
use Rattle.std.proofs.Common.{◌≡◌, ℤ, pos, negsuc, ℕ, suc, Bool, true, false, codes, decimal, List, [], ◌∷◌, ◌++◌, Option, Some, None, slice_get, refl, sym, ap, ◌∙◌, append_assoc, append-nil}
use Rattle.sy_base.specs.Dates.{date_text}
use Rattle.sy_lex.specs.declared.keyword.Keyword.{Keyword}
use Rattle.sy_lex.specs.declared.keyword.Keyword.TheVariants as K
use Rattle.sy_lex.specs.declared.sign.Sign.TheVariants.{Assign, CloseBracket, Comma, Minus, OpenBracket}
use Rattle.sy_lex.specs.declared.token.TokenKind.{TokenKind}
use Rattle.sy_lex.specs.declared.token.TokenKind.TheVariants as S
use Rattle.sy_core.specs.declared.happening.What.{What}
use Rattle.sy_core.specs.declared.happening.What.TheVariants as W
use Rattle.sy_core.specs.declared.happening.Happening.{Happening}
use Rattle.sy_core.specs.declared.value.Value.{Value}
use Rattle.sy_core.specs.declared.value.Value.TheVariants as V
use Rattle.sy_core.specs.declared.deed.AttrDecl.{AttrDecl}
use Rattle.sy_core.specs.declared.deed.EventDecl.{EventDecl}
use Rattle.sy_core.specs.declared.deed.Deed.{Deed}
use Rattle.sy_log.specs.EntryText as text
use Rattle.sy_log.specs.EntryText.{constant_name, position_name, quoted, truth_word}
use Rattle.sy_log.proofs.Pieces.{Piece, bytes_append, bytes_of}

-- a token with nothing behind it
abbrev pub bare : TokenKind → List ℕ → Piece
bare kind text = record { kind = kind; text = text; spaced = false }

-- a token with a blank behind it
abbrev pub spaced : TokenKind → List ℕ → Piece
spaced kind text = record { kind = kind; text = text; spaced = true }

abbrev pub number_pieces : ℤ → List Piece
number_pieces (pos n) = bare S.Number (decimal n) ∷ []
number_pieces (negsuc n) = bare (S.Sign Minus) (codes "-") ∷ bare S.Number (decimal (suc n)) ∷ []

abbrev pub truth_keyword : Bool → Keyword
truth_keyword true = K.True
truth_keyword false = K.False

abbrev pub value_pieces : Deed → Value → List Piece
value_pieces deed (V.Number n) = number_pieces n
value_pieces deed (V.Text bytes) = bare S.Str (quoted bytes) ∷ []
value_pieces deed (V.Boolean truth) = bare (S.Reserved (truth_keyword truth)) (truth_word truth) ∷ []
value_pieces deed (V.Date point) = bare S.Date (date_text deed.unit point) ∷ []
value_pieces deed (V.Choice of constant) = bare S.Word (constant_name (slice_get deed.choices of) constant) ∷ []

abbrev pub field_pieces : Deed → AttrDecl → Value → List Piece
field_pieces deed attr value = spaced S.Word attr.name ∷ spaced (S.Sign Assign) (codes ":=") ∷ value_pieces deed value

abbrev pub more_pieces : Deed → List AttrDecl → List Value → List Piece
more_pieces deed (attr ∷ attrs) (value ∷ values) =
    spaced (S.Sign Comma) (codes ",") ∷ (field_pieces deed attr value ++ more_pieces deed attrs values)
more_pieces deed _ _ = []

-- the closing bracket
abbrev pub closing : List Piece
closing = bare (S.Sign CloseBracket) (codes "]") ∷ []

abbrev pub fields_pieces : Deed → List AttrDecl → List Value → List Piece
fields_pieces deed (attr ∷ attrs) (value ∷ values) =
    bare (S.Sign OpenBracket) (codes "[") ∷ (field_pieces deed attr value ++ (more_pieces deed attrs values ++ closing))
fields_pieces deed _ _ = []

abbrev pub event_pieces : Deed → Option EventDecl → List Value → List Piece
event_pieces deed None values = []
event_pieces deed (Some event) values = bare S.Word event.name ∷ fields_pieces deed event.attrs values

abbrev pub what_pieces : Deed → What → List Piece
what_pieces deed (W.Event event values) =
    spaced (S.Reserved K.Happens) (codes "happens") ∷ event_pieces deed (slice_get deed.events event) values
what_pieces deed (W.Exert power) =
    spaced (S.Reserved K.Exert) (codes "exert") ∷ bare S.Word (position_name (slice_get deed.positions power)) ∷ []

abbrev pub line_pieces : Deed → Happening → List Piece
line_pieces deed happening =
    spaced (S.Reserved K.At) (codes "at") ∷ spaced S.Date (date_text deed.unit happening.point) ∷ what_pieces deed happening.what

-- ---- their bytes are the line's

module _ (deed : Deed) where
  value_bytes : (value : Value) → bytes_of (value_pieces deed value) ≡ text.value_text deed value
  value_bytes (V.Number (pos n)) = append-nil (decimal n)
  value_bytes (V.Number (negsuc n)) = ap (λ (bytes : List ℕ). 45 ∷ bytes) (append-nil (decimal (suc n)))
  value_bytes (V.Text bytes) = append-nil (quoted bytes)
  value_bytes (V.Boolean truth) = append-nil (truth_word truth)
  value_bytes (V.Date point) = append-nil (date_text deed.unit point)
  value_bytes (V.Choice of constant) = append-nil (constant_name (slice_get deed.choices of) constant)

  field_bytes : (attr : AttrDecl) (value : Value) → bytes_of (field_pieces deed attr value) ≡ text.field_text deed attr value
  field_bytes attr value =
      ap (λ (bytes : List ℕ). attr.name ++ (codes " := " ++ bytes)) (value_bytes value)
      ∙ sym (append_assoc attr.name (codes " := ") (text.value_text deed value))

  more_bytes : (attrs : List AttrDecl) (values : List Value) → bytes_of (more_pieces deed attrs values) ≡ text.more_text deed attrs values
  more_bytes [] values = refl
  more_bytes (attr ∷ attrs) [] = refl
  more_bytes (attr ∷ attrs) (value ∷ values) =
      ap (λ (bytes : List ℕ). codes ", " ++ bytes) (bytes_append (field_pieces deed attr value) (more_pieces deed attrs values)
      ∙ (λ i. field_bytes attr value i ++ more_bytes attrs values i))

  fields_bytes : (attrs : List AttrDecl) (values : List Value)
      → bytes_of (fields_pieces deed attrs values) ≡ text.fields_text deed attrs values
  fields_bytes [] values = refl
  fields_bytes (attr ∷ attrs) [] = refl
  fields_bytes (attr ∷ attrs) (value ∷ values) =
      let rest : bytes_of (more_pieces deed attrs values ++ closing) ≡ text.more_text deed attrs values ++ codes "]" =
      bytes_append (more_pieces deed attrs values) closing ∙ ap (λ (bytes : List ℕ). bytes ++ codes "]") (more_bytes attrs values) in
      ap (λ (bytes : List ℕ). codes "[" ++ bytes)
      (bytes_append (field_pieces deed attr value) (more_pieces deed attrs values ++ closing)
      ∙ (λ i. field_bytes attr value i ++ rest i)
      ∙ sym (append_assoc (text.field_text deed attr value) (text.more_text deed attrs values) (codes "]")))

  event_bytes : (event : Option EventDecl) (values : List Value)
      → bytes_of (event_pieces deed event values) ≡ text.event_text deed event values
  event_bytes None values = refl
  event_bytes (Some event) values = ap (λ (bytes : List ℕ). event.name ++ bytes) (fields_bytes event.attrs values)

  what_bytes : (what : What) → bytes_of (what_pieces deed what) ≡ text.what_text deed what
  what_bytes (W.Event event values) =
      ap (λ (bytes : List ℕ). codes "happens " ++ bytes) (event_bytes (slice_get deed.events event) values)
  what_bytes (W.Exert power) =
      ap (λ (bytes : List ℕ). codes "exert " ++ bytes) (append-nil (position_name (slice_get deed.positions power)))

  pub line_bytes : (happening : Happening) → bytes_of (line_pieces deed happening) ≡ text.entry_text deed happening
  line_bytes happening =
      ap (λ (bytes : List ℕ). codes "at " ++ bytes)
      (ap (λ (bytes : List ℕ). date_text deed.unit happening.point ++ (codes " " ++ bytes)) (what_bytes happening.what)
      ∙ sym (append_assoc (date_text deed.unit happening.point) (codes " ") (text.what_text deed happening.what)))
