-- The tokens of a text.
use Rattle.std.specs.Prelude.{ℕ, ◌≡◌, ◌+◌, ◌<◌, ◌≤◌, true, if◌then◌else◌, List, [], ◌∷◌, ◌++◌, length, take, drop, slice_index, Some, Result, Ok, Err}
use Rattle.std.specs.List.{prefix_len}
use Rattle.sy_base.specs.declared.refusal.FileKind.{FileKind}
use Rattle.sy_base.specs.declared.refusal.Place.{Place}
use Rattle.sy_base.specs.declared.refusal.FaultName.TheVariants.{LexFault}
use Rattle.sy_base.specs.declared.refusal.Refusal.{Refusal}
use Rattle.sy_base.specs.declared.refusal.Refused.{Refused}
use Rattle.sy_base.specs.declared.refusal.Refused.TheVariants as R
use Rattle.sy_lex.specs.declared.token.Token.{Token}
use Rattle.sy_lex.specs.declared.token.TokenKind.{TokenKind}
use Rattle.sy_lex.specs.declared.token.TokenKind.TheVariants as K
use Rattle.sy_lex.specs.declared.spot.Spot.{Spot}
use Rattle.sy_lex.specs.Bytes.{is_letter, is_digit, is_word_byte, is_newline, is_blank, is_comment_byte}
use Rattle.sy_lex.specs.Forms.{HasForm}

-- the first byte of a text
abbrev pub first_spot : Spot
first_spot = record { offset = 0; place = record { line = 1; column = 1 } }

-- where the byte behind this one stands: a newline ends its line
abbrev pub next_spot : Spot → ℕ → Spot
next_spot at b =
    record {
      offset = at.offset + 1;
      place =
          if is_newline b then record { line = at.place.line + 1; column = 1 }
          else record { line = at.place.line; column = at.place.column + 1 };
    }

-- where the byte behind these stands
unfoldable pub spot_after : Spot → List ℕ → Spot
spot_after at [] = at
spot_after at (b ∷ bs) = spot_after (next_spot at b) bs

-- where the byte behind a text would stand
abbrev pub end_of : List ℕ → Place
end_of source = (spot_after first_spot source).place

-- the bytes begin with a date
abbrev pub BeginsDate : List ℕ → Type 0
BeginsDate bytes = (n : ℕ) × HasForm K.Date (take n bytes)

-- the first n bytes are the token that is taken, of this kind: the longest one that fits; but a run of letters, digits
-- and `_` that begins with a letter is never divided, and neither is a run of digits where no date begins
pub record IsFirst (kind : TokenKind) (n : ℕ) (bytes : List ℕ) : Type 0 where
  pub within : n ≤ length bytes
  pub form : HasForm kind (take n bytes)
  pub longest : (other : TokenKind) (m : ℕ) → n < m → m ≤ length bytes → HasForm other (take m bytes) → ⊥
  pub word : is_letter (slice_index bytes 0) ≡ true → n ≡ prefix_len is_word_byte bytes
  pub number : is_digit (slice_index bytes 0) ≡ true → (BeginsDate bytes → ⊥) → n ≡ prefix_len is_digit bytes

-- the token of n bytes that begins there
abbrev pub token_at : TokenKind → ℕ → Spot → Token
token_at kind n at = record { kind = kind; from = at.offset; to = at.offset + n; place = at.place }

-- how many bytes a comment has behind its `//`
abbrev pub comment_length : List ℕ → ℕ
comment_length = prefix_len is_comment_byte

-- the bytes, the first of which stands there, have these tokens, in order, with blanks and comments between them
pub data Lexes : Spot → List ℕ → List Token → Type 0 where
  ends : (at : Spot) → Lexes at [] []
  blank : (at : Spot) (b : ℕ) (bytes : List ℕ) (tokens : List Token) → is_blank b ≡ true
      → Lexes (next_spot at b) bytes tokens → Lexes at (b ∷ bytes) tokens
  comment : (at : Spot) (bytes : List ℕ) (tokens : List Token)
      → Lexes (spot_after at (47 ∷ 47 ∷ take (comment_length bytes) bytes)) (drop (comment_length bytes) bytes) tokens
      → Lexes at (47 ∷ 47 ∷ bytes) tokens
  token : (at : Spot) (kind : TokenKind) (n : ℕ) (bytes : List ℕ) (tokens : List Token) → IsFirst kind n bytes
      → Lexes (spot_after at (take n bytes)) (drop n bytes) tokens
      → Lexes at bytes (token_at kind n at ∷ tokens)

-- the text has these tokens
abbrev pub HasText : List Token → List ℕ → Type 0
HasText tokens source = Lexes first_spot source tokens

-- what is answered for a text that has these tokens: them, or want of memory
abbrev pub IsReadAs : Result (List Token) Refused → List Token → Type 0
IsReadAs (Ok found) tokens = found ≡ tokens
IsReadAs (Err R.Memory) tokens = Unit {0}
IsReadAs (Err (R.Refusal refusal)) tokens = ⊥

-- some text that begins with these bytes has tokens
abbrev pub Begins : List ℕ → Type 0
Begins bytes = (more : List ℕ) × (tokens : List Token) × HasText tokens (bytes ++ more)

-- the fault of a text stands behind its first n bytes: the text has no tokens, those n bytes begin one that has some, and with the next byte
-- they begin none, or the text ends there
pub record IsFaultAt (source : List ℕ) (n : ℕ) : Type 0 where
  pub within : n ≤ length source
  pub none : (tokens : List Token) → HasText tokens source → ⊥
  pub begins : Begins (take n source)
  pub stops : n < length source → Begins (take (n + 1) source) → ⊥

-- the refusal of a text whose fault stands at this place
abbrev pub lex_fault : FileKind → Place → Refusal
lex_fault file place = record { file = file; place = Some place; name = LexFault; words = [] }

-- how a text is refused: as LexFault at its fault, or for want of memory
abbrev pub IsLexFault : FileKind → List ℕ → Refused → Type 0
IsLexFault file source R.Memory = Unit {0}
IsLexFault file source (R.Refusal refusal) =
    (n : ℕ) × IsFaultAt source n × (refusal ≡ lex_fault file (end_of (take n source)))
