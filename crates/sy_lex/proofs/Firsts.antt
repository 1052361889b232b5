-- The step at some bytes is the token that is taken there.
use Rattle.std.proofs.Common.{◌≡◌, ℕ, ◌<◌, ◌≤◌, true, nat_le, List, ◌∷◌, length, get_or, take, Option, Some, None, refl, sym, ap, ◌∙◌, arith, inl, inr}
use Rattle.std.specs.Prelude.{IsSome}
use Rattle.std.specs.List.{prefix_len}
use Rattle.std.proofs.lemmas.Bool.{cases_lt, le-leb}
use Rattle.std.proofs.lemmas.List.{length-take, length-take-le, get_or-take}
use Rattle.sy_base.specs.Dates.{written_date}
use Rattle.sy_lex.specs.declared.token.TokenKind.{TokenKind}
use Rattle.sy_lex.specs.declared.token.TokenKind.TheVariants as K
use Rattle.sy_lex.specs.declared.sign.Sign.{Sign}
use Rattle.sy_lex.specs.declared.keyword.Keyword.{Keyword}
use Rattle.sy_lex.specs.declared.step.Step.TheVariants as S
use Rattle.sy_lex.specs.Bytes.{is_letter, is_digit, is_word_byte}
use Rattle.sy_lex.specs.Keywords.{keyword_of}
use Rattle.sy_lex.specs.Forms.{IsReserved, IsNumber, HasForm}
use Rattle.sy_lex.specs.Tokens.{IsFirst, BeginsDate}
use Rattle.sy_lex.specs.Machine.Cutting.{step_at, word_step, kind_of_word, number_step, digit_step, date_or_number, date_length, sign_step, sign_or_fault}
use Rattle.sy_lex.proofs.Begins as c
use Rattle.sy_lex.proofs.Begins.{Class, class_of, class_of_kind, class_step, step_by_class, Begins, begins, letter_form}
use Rattle.sy_lex.proofs.Dates.{date_shape, date_found, date_most, date_within}
use Rattle.sy_lex.proofs.Strings.{string_exact}
use Rattle.sy_lex.proofs.Words.{keyword_is, keyword_found}
use Rattle.sy_lex.proofs.SignTexts.{sign_complete}

pub text_class : (n : ℕ) (bytes : List ℕ) → 0 < n → class_of (get_or (take n bytes) 0 0) ≡ class_of (get_or bytes 0 0)
text_class n bytes some = ap class_of (get_or-take n bytes 0 0 some)

-- a token has a byte at least, and the first is of its class
pub first_class : (kind : TokenKind) (n : ℕ) (bytes : List ℕ) → HasForm kind (take n bytes)
    → (0 < n) × (class_of (get_or bytes 0 0) ≡ class_of_kind kind)
first_class kind n bytes f =
    let b = begins kind (take n bytes) f in
    let some : 0 < n = omega (arith, b.some, length-take n bytes) in
    (some, sym (text_class n bytes some) ∙ b.class)

-- ---- words

word_step_is : (bytes : List ℕ) (n : ℕ) → n ≡ prefix_len is_word_byte bytes → n ≤ 64
    → word_step bytes ≡ S.Token (kind_of_word (keyword_of (take n bytes))) n
word_step_is bytes n run most = let fits : nat_le n 64 ≡ true = le-leb n 64 most in rw (← run, fits) refl

letter_step : (kind : TokenKind) (n : ℕ) (bytes : List ℕ) → IsFirst kind n bytes
    → class_of (get_or bytes 0 0) ≡ c.letter → kind_of_word (keyword_of (take n bytes)) ≡ kind
    → word_step bytes ≡ S.Token kind n
letter_step kind n bytes f class is =
    let some = (first_class kind n bytes f.form).0 in
    let word = letter_form kind (take n bytes) (text_class n bytes some ∙ class) f.form in
    let letter : is_letter (get_or bytes 0 0) ≡ true = ap is_letter (sym (get_or-take n bytes 0 0 some))
    ∙ word.letter in
    let most : n ≤ 64 = omega (arith, word.most, length-take-le n bytes f.within) in
    word_step_is bytes n (f.word letter) most ∙ ap (λ (k : TokenKind). S.Token k n) is

word_kind : (text : List ℕ) (found : Option Keyword) → keyword_of text ≡ found → (IsReserved text → ⊥)
    → kind_of_word found ≡ K.Word
word_kind text None is free = refl
word_kind text (Some keyword) is free = absurd (free (keyword, keyword_is text keyword is))

-- ---- numbers and dates

number_step_is : (bytes : List ℕ) (n : ℕ) → n ≡ prefix_len is_digit bytes → n ≤ 18
    → number_step bytes ≡ S.Token K.Number n
number_step_is bytes n run most = let fits : nat_le n 18 ≡ true = le-leb n 18 most in rw (← run, fits) refl

-- the fifth byte of a date is no digit
pub date_or_digits : (bytes : List ℕ) (m n : ℕ) → n ≤ length bytes → IsSome (written_date (take m bytes))
    → m ≤ length bytes → m ≤ n → ((k : ℕ) → k < n → is_digit (get_or bytes k 0) ≡ true) → ⊥
date_or_digits bytes m n within date inside le each =
    let shape = date_shape (take m bytes) date in
    let five : 4 < m = grind (arith, shape.size, length-take-le m bytes inside) in
    let dash : get_or bytes 4 0 ≡ 45 = sym (get_or-take m bytes 4 0 five) ∙ shape.dash in
    let digit : is_digit 45 ≡ true = ap is_digit (sym dash) ∙ each 4 (omega arith) in
    cc

pub each_digit : (n : ℕ) (bytes : List ℕ) → n ≤ length bytes → IsNumber (take n bytes) → (k : ℕ) → k < n
    → is_digit (get_or bytes k 0) ≡ true
each_digit n bytes within number k lt =
    let size = length-take-le n bytes within in
    ap is_digit (sym (get_or-take n bytes k 0 lt)) ∙ number.each k (omega arith)

number_alone : (n : ℕ) (bytes : List ℕ) → IsFirst K.Number n bytes → BeginsDate bytes → ⊥
number_alone n bytes f begun =
    let date = date_within bytes begun in
    elim (cases_lt n date.0) [
      | inl lt ↦ f.longest K.Date date.0 lt date.1 date.2
      | inr le ↦ date_or_digits bytes date.0 n f.within date.2 date.1 le (each_digit n bytes f.within f.form)
    ]

none_begins : (bytes : List ℕ) (found : Option ℕ) → date_length bytes ≡ found → (BeginsDate bytes → ⊥) → found ≡ None
none_begins bytes None is none = refl
none_begins bytes (Some n) is none = absurd (none (n, (date_found bytes n is).1))

number_first_step : (n : ℕ) (bytes : List ℕ) → IsFirst K.Number n bytes → digit_step bytes ≡ S.Token K.Number n
number_first_step n bytes f =
    let none = number_alone n bytes f in
    let number : IsNumber (take n bytes) = f.form in
    let some = (first_class K.Number n bytes f.form).0 in
    let digit = each_digit n bytes f.within number 0 some in
    let most : n ≤ 18 = omega (arith, number.most, length-take-le n bytes f.within) in
    ap (λ (o : Option ℕ). date_or_number o bytes) (none_begins bytes (date_length bytes) refl none)
    ∙ number_step_is bytes n (f.number digit none) most

date_first_step : (n : ℕ) (bytes : List ℕ) → IsFirst K.Date n bytes → digit_step bytes ≡ S.Token K.Date n
date_first_step n bytes f =
    let most = date_most bytes n f.within f.form in
    let found = date_found bytes most.0 most.1 in
    let same : most.0 ≡ n = elim (cases_lt n most.0) [
      | inl lt ↦ absurd (f.longest K.Date most.0 lt found.0 found.1)
      | inr le ↦ omega arith
    ] in
    ap (λ (o : Option ℕ). date_or_number o bytes) most.1 ∙ ap (S.Token K.Date) same

-- ---- signs

sign_first_step : (sign : Sign) (n : ℕ) (bytes : List ℕ) → IsFirst (K.Sign sign) n bytes
    → sign_step bytes ≡ S.Token (K.Sign sign) n
sign_first_step sign n bytes f =
    let found = sign_complete sign n bytes f.within f.form (λ other m lt le is. f.longest (K.Sign other) m lt le is) in
    ap (λ (o : Option Sign). sign_or_fault o bytes) found
    ∙ ap (S.Token (K.Sign sign)) (ap length f.form ∙ length-take-le n bytes f.within)

-- ---- all kinds

by_kind : (kind : TokenKind) (n b : ℕ) (bytes : List ℕ) → IsFirst kind n (b ∷ bytes) → class_of b ≡ class_of_kind kind
    → class_step (class_of_kind kind) b bytes ≡ S.Token kind n
by_kind K.Word n b bytes f class =
    letter_step K.Word n (b ∷ bytes) f class (word_kind _ (keyword_of (take n (b ∷ bytes))) refl f.form.1)
by_kind (K.Reserved keyword) n b bytes f class =
    letter_step (K.Reserved keyword) n (b ∷ bytes) f class (ap kind_of_word (keyword_found (take n (b ∷ bytes)) keyword f.form))
by_kind K.Number n b bytes f class = number_first_step n (b ∷ bytes) f
by_kind K.Date n b bytes f class = date_first_step n (b ∷ bytes) f
by_kind K.Str n b bytes f class =
    sym (step_by_class b bytes c.quote class) ∙ string_exact (b ∷ bytes) n f.within f.form
by_kind (K.Sign sign) n b bytes f class = sign_first_step sign n (b ∷ bytes) f

pub first_step : (kind : TokenKind) (n b : ℕ) (bytes : List ℕ) → IsFirst kind n (b ∷ bytes)
    → step_at (b ∷ bytes) ≡ S.Token kind n
first_step kind n b bytes f =
    let class : class_of b ≡ class_of_kind kind = (first_class kind n (b ∷ bytes) f.form).1 in
    step_by_class b bytes (class_of_kind kind) class ∙ by_kind kind n b bytes f class
