-- The form of each kind of token.
use Rattle.std.specs.Prelude.{ℕ, ◌≡◌, ◌<◌, ◌≤◌, true, false, List, [], ◌∷◌, ◌++◌, length, slice_index, IsSome}
use Rattle.sy_base.specs.Dates.{written_date}
use Rattle.sy_lex.specs.declared.token.TokenKind.{TokenKind}
use Rattle.sy_lex.specs.declared.token.TokenKind.TheVariants.{Word, Reserved, Number, Date, Str, Sign}
use Rattle.sy_lex.specs.declared.keyword.Keyword.{Keyword}
use Rattle.sy_lex.specs.Bytes.{is_letter, is_digit, is_word_byte, is_newline, is_escaped}
use Rattle.sy_lex.specs.Keywords.{keyword_text}
use Rattle.sy_lex.specs.Signs.{sign_text}

-- a letter, then letters, digits and `_`: 1 to 64 bytes
pub record IsWord (text : List ℕ) : Type 0 where
  pub some : 0 < length text
  pub most : length text ≤ 64
  pub letter : is_letter (slice_index text 0) ≡ true
  pub each : (k : ℕ) → k < length text → is_word_byte (slice_index text k) ≡ true

-- one of the reserved words
abbrev pub IsReserved : List ℕ → Type 0
IsReserved text = (keyword : Keyword) × (keyword_text keyword ≡ text)

-- 1 to 18 digits
pub record IsNumber (text : List ℕ) : Type 0 where
  pub some : 0 < length text
  pub most : length text ≤ 18
  pub each : (k : ℕ) → k < length text → is_digit (slice_index text k) ≡ true

-- the bytes between two quotes, and their content: `\"` and `\\` stand for their second byte, each other byte for
-- itself, and no newline, no other `"` and no other `\` is there
pub data HasContent : List ℕ → List ℕ → Type 0 where
  empty : HasContent [] []
  escape : (b : ℕ) (bytes content : List ℕ) → is_escaped b ≡ true → HasContent bytes content
      → HasContent (92 ∷ b ∷ bytes) (b ∷ content)
  byte : (b : ℕ) (bytes content : List ℕ) → is_newline b ≡ false → is_escaped b ≡ false → HasContent bytes content
      → HasContent (b ∷ bytes) (b ∷ content)

-- a text between quotes, with at most 256 bytes of content
pub record IsString (text : List ℕ) : Type 0 where
  pub inside : List ℕ
  pub content : List ℕ
  pub quoted : text ≡ 34 ∷ inside ++ 34 ∷ []
  pub holds : HasContent inside content
  pub most : length content ≤ 256

-- the text is a token of this kind
abbrev pub HasForm : TokenKind → List ℕ → Type 0
HasForm Word text = IsWord text × (IsReserved text → ⊥)
HasForm (Reserved keyword) text = keyword_text keyword ≡ text
HasForm Number text = IsNumber text
HasForm Date text = IsSome (written_date text)
HasForm Str text = IsString text
HasForm (Sign sign) text = sign_text sign ≡ text
