-- Which kinds of token a first byte can begin.
use Rattle.std.proofs.Common.{◌≡◌, ℕ, ◌<◌, Bool, true, false, ◌==◌, if◌then◌else◌, List, [], ◌∷◌, length, get_or, refl, ap, subst, ◌∙◌, arith, inl, inr, ◌⊎◌}
use Rattle.std.specs.Prelude.{IsSome}
use Rattle.std.proofs.lemmas.Bool.Decides.{nat_tests}
use Rattle.sy_base.specs.Dates.{written_date}
use Rattle.sy_lex.specs.declared.token.TokenKind.{TokenKind}
use Rattle.sy_lex.specs.declared.token.TokenKind.TheVariants as K
use Rattle.sy_lex.specs.declared.keyword.Keyword.{Keyword}
use Rattle.sy_lex.specs.declared.sign.Sign.{Sign}
use Rattle.sy_lex.specs.declared.step.Step.{Step}
use Rattle.sy_lex.specs.declared.step.Step.TheVariants as S
use Rattle.sy_lex.specs.Bytes.{is_letter, is_digit, is_blank, is_quote}
use Rattle.sy_lex.specs.Keywords.{keyword_text}
use Rattle.sy_lex.specs.Signs.{sign_text}
use Rattle.sy_lex.specs.Forms.{IsWord, IsNumber, IsString, HasForm}
use Rattle.sy_lex.specs.Machine.Cutting.{string_step, slash_step, word_step, digit_step, sign_step, step_at}
use Rattle.sy_lex.proofs.Dates.{date_shape}
use Rattle.sy_lex.proofs.Words.{keyword_is_word}
use Rattle.sy_lex.proofs.SignTexts.{BeginsSign, sign_complete, sign_first}

-- one of the signs
abbrev pub IsSign : List ℕ → Type 0
IsSign text = (sign : Sign) × (sign_text sign ≡ text)

-- what a byte begins: a text between quotes, a comment, a blank, a word, a number or a date, or a sign or nothing
pub data Class : Type 0 where
  quote : Class
  slash : Class
  blank : Class
  letter : Class
  digit : Class
  other : Class

abbrev by_tests : Bool → Bool → Bool → Bool → Bool → Class
by_tests q s k l d =
    if q then quote else (if s then slash else (if k then blank else (if l then letter else (if d then digit else other))))

abbrev pub class_of : ℕ → Class
class_of b = by_tests (is_quote b) (b == 47) (is_blank b) (is_letter b) (is_digit b)

abbrev pub class_step : Class → ℕ → List ℕ → Step
class_step quote b bytes = string_step 256 1 bytes
class_step slash b bytes = slash_step bytes
class_step blank b bytes = S.Skip 1
class_step letter b bytes = word_step (b ∷ bytes)
class_step digit b bytes = digit_step (b ∷ bytes)
class_step other b bytes = sign_step (b ∷ bytes)

step_by_tests : (q s k l d : Bool) (b : ℕ) (bytes : List ℕ) →
    (if q then string_step 256 1 bytes else (if s then slash_step bytes else (if k then S.Skip 1 else (
    if l then word_step (b ∷ bytes) else (if d then digit_step (b ∷ bytes) else sign_step (b ∷ bytes))))))
    ≡ class_step (by_tests q s k l d) b bytes
step_by_tests true s k l d b bytes = refl
step_by_tests false true k l d b bytes = refl
step_by_tests false false true l d b bytes = refl
step_by_tests false false false true d b bytes = refl
step_by_tests false false false false true b bytes = refl
step_by_tests false false false false false b bytes = refl

pub step_by_class : (b : ℕ) (bytes : List ℕ) (class : Class) → class_of b ≡ class
    → step_at (b ∷ bytes) ≡ class_step class b bytes
step_by_class b bytes class is =
    step_by_tests (is_quote b) (b == 47) (is_blank b) (is_letter b) (is_digit b) b bytes
    ∙ ap (λ (c : Class). class_step c b bytes) is

pub letter_class : (b : ℕ) → is_letter b ≡ true → class_of b ≡ letter
letter_class b h = grind (arith, nat_tests)

pub digit_class : (b : ℕ) → is_digit b ≡ true → class_of b ≡ digit
digit_class b h = grind (arith, nat_tests)

pub blank_class : (b : ℕ) → is_blank b ≡ true → class_of b ≡ blank
blank_class b h = grind (arith, nat_tests)

sign_class : (b : ℕ) → BeginsSign b → class_of b ≡ other
sign_class b s = rw (s.quote, s.slash, s.blank, s.letter, s.digit) refl

-- the class of the bytes that begin a kind of token
abbrev pub class_of_kind : TokenKind → Class
class_of_kind K.Word = letter
class_of_kind (K.Reserved keyword) = letter
class_of_kind K.Number = digit
class_of_kind K.Date = digit
class_of_kind K.Str = quote
class_of_kind (K.Sign sign) = other

pub record Begins (kind : TokenKind) (text : List ℕ) : Type 0 where
  pub some : 0 < length text
  pub class : class_of (get_or text 0 0) ≡ class_of_kind kind

reserved_word : (keyword : Keyword) (text : List ℕ) → keyword_text keyword ≡ text → IsWord text
reserved_word keyword text is = subst IsWord is (keyword_is_word keyword)

sign_begins : (sign : Sign) (text : List ℕ) → sign_text sign ≡ text → Begins (K.Sign sign) text
sign_begins sign [] is =
    let found = sign_complete sign 0 [] (omega arith) is (λ _ _ lt le. absurd (omega arith)) in absurd cc
sign_begins sign (b ∷ text) is = record { some = omega arith; class = sign_class b (sign_first sign b text is) }

pub begins : (kind : TokenKind) (text : List ℕ) → HasForm kind text → Begins kind text
begins K.Word text f = record { some = f.0.some; class = letter_class (get_or text 0 0) f.0.letter }
begins (K.Reserved keyword) text f =
    let word = reserved_word keyword text f in record { some = word.some; class = letter_class (get_or text 0 0) word.letter }
begins K.Number text f = record { some = f.some; class = digit_class (get_or text 0 0) (f.each 0 f.some) }
begins K.Date text f =
    let shape = date_shape text f in record { some = grind (arith, shape.size); class = digit_class (get_or text 0 0) shape.digit }
begins K.Str text f = rw f.quoted (record { some = omega arith; class = refl })
begins (K.Sign sign) text f = sign_begins sign text f

pub letter_form : (kind : TokenKind) (text : List ℕ) → class_of (get_or text 0 0) ≡ letter → HasForm kind text
    → IsWord text
letter_form K.Word text is f = f.0
letter_form (K.Reserved keyword) text is f = reserved_word keyword text f
letter_form kind text is f = let b = begins kind text f in absurd (cc b.class)

pub digit_form : (kind : TokenKind) (text : List ℕ) → class_of (get_or text 0 0) ≡ digit → HasForm kind text
    → IsNumber text ⊎ IsSome (written_date text)
digit_form K.Number text is f = inl f
digit_form K.Date text is f = inr f
digit_form kind text is f = let b = begins kind text f in absurd (cc b.class)

pub quote_form : (kind : TokenKind) (text : List ℕ) → class_of (get_or text 0 0) ≡ quote → HasForm kind text
    → IsString text
quote_form K.Str text is f = f
quote_form kind text is f = let b = begins kind text f in absurd (cc b.class)

pub other_form : (kind : TokenKind) (text : List ℕ) → class_of (get_or text 0 0) ≡ other → HasForm kind text
    → IsSign text
other_form (K.Sign sign) text is f = (sign, f)
other_form kind text is f = let b = begins kind text f in absurd (cc b.class)
