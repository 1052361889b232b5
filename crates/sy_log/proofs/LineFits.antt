-- The pieces of the line of a happening of the deed are tokens, each of which ends where its text does.
use Rattle.std.proofs.Common.{◌≡◌, ℕ, suc, ℤ, pos, negsuc, Bool, true, false, ◌==◌, List, [], ◌∷◌, ◌++◌, slice_get, Option, Some, None, refl, subst, arith}
use Rattle.std.specs.List.{All}
use Rattle.std.proofs.lemmas.Bool.{eqb-true}
use Rattle.std.proofs.lemmas.Bool.Decides.{nat_tests}
use Rattle.sy_lex.specs.declared.sign.Sign.{Sign}
use Rattle.sy_lex.specs.declared.sign.Sign.TheVariants.{Minus, OpenBracket}
use Rattle.sy_lex.specs.declared.token.TokenKind.{TokenKind}
use Rattle.sy_lex.specs.declared.token.TokenKind.TheVariants as S
use Rattle.sy_lex.specs.Bytes.{is_digit, is_letter}
use Rattle.sy_lex.specs.Forms.{IsNumber, IsWord}
use Rattle.sy_lex.proofs.Begins.{class_of_kind}
use Rattle.sy_core.specs.declared.happening.What.{What}
use Rattle.sy_core.specs.declared.happening.What.TheVariants as W
use Rattle.sy_core.specs.declared.happening.Happening.{Happening}
use Rattle.sy_core.specs.declared.position.Position.{Position}
use Rattle.sy_core.specs.declared.value.Value.{Value}
use Rattle.sy_core.specs.declared.value.Value.TheVariants as V
use Rattle.sy_core.specs.declared.value.ValueKind.{ValueKind}
use Rattle.sy_core.specs.declared.value.ValueKind.TheVariants as Kind
use Rattle.sy_core.specs.declared.deed.AttrDecl.{AttrDecl}
use Rattle.sy_core.specs.declared.deed.EventDecl.{EventDecl}
use Rattle.sy_core.specs.declared.deed.Deed.{Deed}
use Rattle.sy_core.specs.Conditions.{is_power}
use Rattle.sy_core.specs.Soundness.{HasNamesApart, form_passes}
use Rattle.sy_core.specs.Values.{is_constant_of, is_in_range, is_value_of}
use Rattle.sy_log.specs.EntryText.{position_name}
use Rattle.sy_log.specs.Happenings.{IsOfDeed, are_values_at, are_values_of, is_told_value, is_what_of, is_writable}
use Rattle.sy_log.specs.Naming.{HasWords, IsName}
use Rattle.sy_log.proofs.Booleans.{left, right}
use Rattle.sy_log.proofs.Endings.{Ends, is_later, is_sign_end}
use Rattle.sy_log.proofs.LinePieces.{bare, closing, event_pieces, field_pieces, fields_pieces, line_pieces, more_pieces, number_pieces, value_pieces, what_pieces}
use Rattle.sy_log.proofs.Pieces.{ArePieces, bytes_of, pieces_append}
use Rattle.sy_log.proofs.ValueFits.{constant_form, date_form, dated_from_test, one_of_all}
use Rattle.sy_log.proofs.ValuesBack.{decimal_number, quoted_string, small_negative, small_pos}

-- ---- what ends tokens

-- each token ends in front of these bytes
abbrev Breaks : List ℕ → Type 0
Breaks after = (kind : TokenKind) → Ends kind after

-- each token ends in front of a comma
comma_ends : (kind : TokenKind) → is_later (class_of_kind kind) 44 ≡ false
comma_ends S.Word = refl
comma_ends (S.Reserved k) = refl
comma_ends S.Number = refl
comma_ends S.Date = refl
comma_ends S.Str = refl
comma_ends (S.Sign s) = refl

-- and in front of a closing bracket
bracket_ends : (kind : TokenKind) → is_later (class_of_kind kind) 93 ≡ false
bracket_ends S.Word = refl
bracket_ends (S.Reserved k) = refl
bracket_ends S.Number = refl
bracket_ends S.Date = refl
bracket_ends S.Str = refl
bracket_ends (S.Sign s) = refl

letter_ends : (b : ℕ) → is_letter b ≡ true → is_sign_end b ≡ false
letter_ends b h = grind (arith, nat_tests)

digit_ends : (b : ℕ) → is_digit b ≡ true → is_sign_end b ≡ false
digit_ends b h = grind (arith, nat_tests)

-- a sign ends in front of a word
word_behind : (s : Sign) (text more after : List ℕ) → IsWord text → Ends (S.Sign s) ((text ++ more) ++ after)
word_behind s [] more after word = let some = word.some in absurd (omega arith)
word_behind s (b ∷ text) more after word = letter_ends b word.letter

-- and in front of digits
digits_behind : (s : Sign) (text more after : List ℕ) → IsNumber text → Ends (S.Sign s) ((text ++ more) ++ after)
digits_behind s [] more after number = let some = number.some in absurd (omega arith)
digits_behind s (b ∷ text) more after number = digit_ends b (number.each 0 number.some)

-- ---- the pieces

number_fits : (n : ℤ) → is_in_range n ≡ true → (after : List ℕ) → Breaks after → ArePieces (number_pieces n) after
number_fits (pos n) h after breaks = (decimal_number n (small_pos n h), breaks S.Number, tt)
number_fits (negsuc n) h after breaks =
    let number = decimal_number (suc n) (small_negative n h) in
    (refl, digits_behind Minus _ [] after number, (number, breaks S.Number, tt))

truth_fits : (truth : Bool) (after : List ℕ) → Breaks after → (deed : Deed) → ArePieces (value_pieces deed (V.Boolean truth)) after
truth_fits true after breaks deed = (refl, breaks S.Word, tt)
truth_fits false after breaks deed = (refl, breaks S.Word, tt)

module _ (deed : Deed) (words : HasWords deed) (apart : HasNamesApart deed) where
  same_enumeration : (e f constant : ℕ) → is_value_of deed (Kind.Choice e) (V.Choice f constant) ≡ true
      → is_constant_of constant (slice_get deed.choices f) ≡ true
  same_enumeration e f constant h =
      let is = eqb-true e f (left (e == f) (is_constant_of constant (slice_get deed.choices e)) h) in
      subst (λ (of : ℕ). is_constant_of constant (slice_get deed.choices of) ≡ true) is
      (right (e == f) (is_constant_of constant (slice_get deed.choices e)) h)

  value_fits : (kind : ValueKind) (value : Value) → is_value_of deed kind value ≡ true → is_writable value ≡ true
      → (after : List ℕ) → Breaks after → ArePieces (value_pieces deed value) after
  value_fits Kind.Number (V.Number n) h w after breaks = number_fits n h after breaks
  value_fits Kind.Text (V.Text bytes) h w after breaks = (quoted_string bytes w, breaks S.Str, tt)
  value_fits Kind.Boolean (V.Boolean truth) h w after breaks = truth_fits truth after breaks deed
  value_fits Kind.Date (V.Date point) h w after breaks =
      (date_form deed.unit point (dated_from_test deed.unit point h), breaks S.Date, tt)
  value_fits (Kind.Choice e) (V.Choice f constant) h w after breaks =
      (constant_form deed words apart f constant (same_enumeration e f constant h), breaks S.Word, tt)
  value_fits kind value h w after breaks = absurd cc

  field_fits : (attr : AttrDecl) (value : Value) → IsName attr.name → is_told_value deed attr.kind value ≡ true
      → (after : List ℕ) → Breaks after → ArePieces (field_pieces deed attr value) after
  field_fits attr value name told after breaks =
      let value_is = left (is_value_of deed attr.kind value) (is_writable value) told in
      let writable = right (is_value_of deed attr.kind value) (is_writable value) told in
      (name, refl, (refl, refl, value_fits attr.kind value value_is writable after breaks))

  more_break : (attrs : List AttrDecl) (values : List Value) (after : List ℕ) → Breaks after
      → Breaks (bytes_of (more_pieces deed attrs values) ++ after)
  more_break [] values after breaks = breaks
  more_break (attr ∷ attrs) [] after breaks = breaks
  more_break (attr ∷ attrs) (value ∷ values) after breaks = comma_ends

  first_told : (attr : AttrDecl) (attrs : List AttrDecl) (value : Value) (values : List Value)
      → are_values_of deed (attr ∷ attrs) (value ∷ values) ≡ true
      → (is_told_value deed attr.kind value ≡ true) × (are_values_of deed attrs values ≡ true)
  first_told attr attrs value values told =
      let first = is_told_value deed attr.kind value in
      let others = are_values_of deed attrs values in
      (left first others told, right first others told)

  abbrev AreNames : List AttrDecl → Type 0
  AreNames attrs = All (λ attr. IsName attr.name) attrs

  first_name : (attr : AttrDecl) (attrs : List AttrDecl) → AreNames (attr ∷ attrs) → IsName attr.name
  first_name attr attrs names = names 0 attr (omega arith)

  later_names : (attr : AttrDecl) (attrs : List AttrDecl) → AreNames (attr ∷ attrs) → AreNames attrs
  later_names attr attrs names = λ k d within. names (suc k) d (omega arith)

  more_fit : (attrs : List AttrDecl) (values : List Value) → AreNames attrs → are_values_of deed attrs values ≡ true
      → (after : List ℕ) → Breaks after → ArePieces (more_pieces deed attrs values) after
  more_fit [] values names told after breaks = tt
  more_fit (attr ∷ attrs) [] names told after breaks = tt
  more_fit (attr ∷ attrs) (value ∷ values) names told after breaks =
      let both = first_told attr attrs value values told in
      let behind = bytes_of (more_pieces deed attrs values) ++ after in
      let one = field_fits attr value (first_name attr attrs names) both.0 behind (more_break attrs values after breaks) in
      let more = more_fit attrs values (later_names attr attrs names) both.1 after breaks in
      (refl, refl, pieces_append (field_pieces deed attr value) (more_pieces deed attrs values) after one more)

  closing_break : (attrs : List AttrDecl) (values : List Value) → Breaks (bytes_of (more_pieces deed attrs values ++ closing) ++ [])
  closing_break [] values = bracket_ends
  closing_break (attr ∷ attrs) [] = bracket_ends
  closing_break (attr ∷ attrs) (value ∷ values) = comma_ends

  fields_fit : (attrs : List AttrDecl) (values : List Value) → AreNames attrs → are_values_of deed attrs values ≡ true
      → ArePieces (fields_pieces deed attrs values) []
  fields_fit [] values names told = tt
  fields_fit (attr ∷ attrs) [] names told = tt
  fields_fit (attr ∷ attrs) (value ∷ values) names told =
      let both = first_told attr attrs value values told in
      let name = first_name attr attrs names in
      let rest = more_pieces deed attrs values ++ closing in
      let one = field_fits attr value name both.0 (bytes_of rest ++ []) (closing_break attrs values) in
      let more = more_fit attrs values (later_names attr attrs names) both.1 (bytes_of closing ++ []) bracket_ends in
      let closed = pieces_append (more_pieces deed attrs values) closing [] more (refl, tt, tt) in
      (refl, word_behind OpenBracket attr.name _ [] name.0, pieces_append (field_pieces deed attr value) rest [] one closed)

  name_ends : (attrs : List AttrDecl) (values : List Value) → Ends S.Word (bytes_of (fields_pieces deed attrs values) ++ [])
  name_ends [] values = tt
  name_ends (attr ∷ attrs) [] = tt
  name_ends (attr ∷ attrs) (value ∷ values) = refl

  event_fits : (event : ℕ) (there : Option EventDecl) (values : List Value) → slice_get deed.events event ≡ there
      → are_values_at deed there values ≡ true → ArePieces (event_pieces deed there values) []
  event_fits event None values is told = absurd cc
  event_fits event (Some decl) values is told =
      let name = one_of_all (λ d. IsName d.name) deed.events event decl words.events is in
      let names = one_of_all (λ d. AreNames d.attrs) deed.events event decl words.attributes is in
      (name, name_ends decl.attrs values, fields_fit decl.attrs values names told)

  power_fits : (power : ℕ) (there : Option Position) → slice_get deed.positions power ≡ there
      → form_passes is_power there ≡ true → ArePieces (bare S.Word (position_name there) ∷ []) []
  power_fits power None is told = absurd cc
  power_fits power (Some p) is told = (one_of_all (λ q. IsName q.name) deed.positions power p words.positions is, tt, tt)

  what_fits : (what : What) → is_what_of deed what ≡ true → ArePieces (what_pieces deed what) []
  what_fits (W.Event event values) told = (refl, refl, event_fits event (slice_get deed.events event) values refl told)
  what_fits (W.Exert power) told = (refl, refl, power_fits power (slice_get deed.positions power) refl told)

  pub line_fits : (happening : Happening) → IsOfDeed deed happening → ArePieces (line_pieces deed happening) []
  line_fits happening of =
      (refl, refl, (date_form deed.unit happening.point of.dated, refl, what_fits happening.what of.what))
