-- A token is the one that is taken at the front, where the byte behind it can't be one more of its text.
use Rattle.std.proofs.Common.{◌≡◌, ◌≢◌, ℕ, suc, ◌-◌, ◌<◌, ◌≤◌, Bool, true, false, ◌||◌, ◌&&◌, ◌==◌, List, [], ◌∷◌, ◌++◌, length, get_or, take, drop, Option, Some, None, refl, sym, ap, subst, ◌∙◌, arith, inl, inr, length-append, length-drop}
use Rattle.std.specs.Prelude.{IsSome}
use Rattle.std.specs.List.{prefix_len, list_all, AllByRecursion}
use Rattle.std.proofs.lemmas.Bool.{cases_Bool, false≢true}
use Rattle.std.proofs.lemmas.Bool.Decides.{nat_tests}
use Rattle.std.proofs.lemmas.List.{take_at, get_or-take, length-take-le}
use Rattle.std.proofs.lemmas.Grind.{get_or_after_one}
use Rattle.std.proofs.lemmas.List.Elements.{All-get_or, All-from_recursion}
use Rattle.std.proofs.lemmas.List.Sums.{AllPass-from_list_all, prefix_len_is}
use Rattle.std.proofs.Math.ListN.{get_or-append}
use Rattle.std.proofs.Math.Seq.{get_or-append_seam}
use Rattle.sy_base.specs.Dates.{TimeOfDay, value_of_digit, joined, number2, number4, time_text, at_hour, at_minute, with_parts, written_date}
use Rattle.sy_lex.specs.declared.token.TokenKind.{TokenKind}
use Rattle.sy_lex.specs.declared.token.TokenKind.TheVariants as K
use Rattle.sy_lex.specs.declared.sign.Sign.{Sign}
use Rattle.sy_lex.specs.declared.sign.Sign.TheVariants as S
use Rattle.sy_lex.specs.Bytes.{is_digit, is_word_byte}
use Rattle.sy_lex.specs.Signs.{sign_text}
use Rattle.sy_lex.specs.Forms.{IsWord, IsString, HasForm}
use Rattle.sy_lex.specs.Tokens.{IsFirst}
use Rattle.sy_lex.proofs.Begins as c
use Rattle.sy_lex.proofs.Begins.{Class, class_of, class_of_kind, begins, letter_class, digit_class, letter_form, digit_form}
use Rattle.sy_lex.proofs.Firsts.{first_class}
use Rattle.sy_lex.proofs.Stands.{Stands, step_stands}
use Rattle.sy_lex.proofs.Strings.{string_exact}
use Rattle.sy_lex.proofs.Words.{keyword_is_word}

-- ---- what a text may hold behind its first byte

-- a byte that a number or a date may hold
abbrev pub is_date_byte : ℕ → Bool
is_date_byte b = is_digit b || (b == 45) || (b == 84) || (b == 58)

-- a byte that a sign may end with
abbrev pub is_sign_end : ℕ → Bool
is_sign_end b = (b == 61) || (b == 62)

-- a byte behind the first of a text that begins so, but for a text between quotes
abbrev pub is_later : Class → ℕ → Bool
is_later c.letter b = is_word_byte b
is_later c.digit b = is_date_byte b
is_later c.other b = is_sign_end b
is_later c.quote b = false
is_later c.slash b = false
is_later c.blank b = false

-- no longer text of the kind can go on there
abbrev pub Ends : TokenKind → List ℕ → Type 0
Ends kind [] = Unit {0}
Ends kind (b ∷ bytes) = is_later (class_of_kind kind) b ≡ false

abbrev IsDateByte : ℕ → Type 0
IsDateByte b = is_date_byte b ≡ true

digit_byte : (b : ℕ) → is_digit b ≡ true → IsDateByte b
digit_byte b h = rw h refl

dash_byte : (b : ℕ) → (b == 45) ≡ true → IsDateByte b
dash_byte b h = grind (arith, nat_tests)

value_byte : (b : ℕ) → IsSome (value_of_digit b) → IsDateByte b
value_byte b some = elim (cases_Bool (is_digit b)) [
  | inl digit ↦ digit_byte b digit
  | inr other ↦ let some' = rw other at some in absurd cc
]

both_some : (base : ℕ) (high low : Option ℕ) → IsSome (joined base high low) → IsSome high × IsSome low
both_some base (Some high) (Some low) some = (refl, refl)
both_some base (Some high) None some = absurd cc
both_some base None low some = absurd cc

two_bytes : (a b : ℕ) → IsSome (number2 a b) → IsDateByte a × IsDateByte b
two_bytes a b some = let both = both_some 10 _ _ some in (value_byte a both.0, value_byte b both.1)

with_two : (a b : ℕ) (rest : List ℕ) → IsDateByte a × IsDateByte b → AllByRecursion IsDateByte rest
    → AllByRecursion IsDateByte (a ∷ b ∷ rest)
with_two a b rest two others = (two.0, (two.1, others))

hour_some : (hour : Option ℕ) → IsSome (at_hour hour) → IsSome hour
hour_some (Some hour) some = refl
hour_some None some = absurd cc

minute_some : (hour minute : Option ℕ) → IsSome (at_minute hour minute) → IsSome hour × IsSome minute
minute_some (Some hour) (Some minute) some = (refl, refl)
minute_some (Some hour) None some = absurd cc
minute_some None minute some = absurd cc

time_bytes : (rest : List ℕ) → IsSome (time_text rest) → AllByRecursion IsDateByte rest
time_bytes [] some = tt
time_bytes (t ∷ []) some = absurd cc
time_bytes (t ∷ a ∷ []) some = absurd cc
time_bytes (t ∷ a ∷ b ∷ []) some = elim (cases_Bool (t == 84)) [
  | inl is ↦
      let two = two_bytes a b (hour_some (number2 a b) (rw is at some)) in
      (grind (arith, nat_tests), with_two a b [] two tt)
  | inr other ↦ let some' = rw other at some in absurd cc
]
time_bytes (t ∷ a ∷ b ∷ s ∷ []) some = absurd cc
time_bytes (t ∷ a ∷ b ∷ s ∷ c ∷ []) some = absurd cc
time_bytes (t ∷ a ∷ b ∷ s ∷ c ∷ d ∷ []) some = elim (cases_Bool ((t == 84) && (s == 58))) [
  | inl is ↦
      let both = minute_some (number2 a b) (number2 c d) (rw is at some) in
      let minute = with_two c d [] (two_bytes c d both.1) tt in
      (grind (arith, nat_tests), with_two a b (s ∷ c ∷ d ∷ []) (two_bytes a b both.0) (grind (arith, nat_tests), minute))
  | inr other ↦ let some' = rw other at some in absurd cc
]
time_bytes (t ∷ a ∷ b ∷ s ∷ c ∷ d ∷ e ∷ rest) some = absurd cc

parts_some : (year month day : Option ℕ) (time : Option TimeOfDay) → IsSome (with_parts year month day time)
    → IsSome year × IsSome month × IsSome day × IsSome time
parts_some (Some year) (Some month) (Some day) (Some time) some = (refl, refl, refl, refl)
parts_some (Some year) (Some month) (Some day) None some = absurd cc
parts_some (Some year) (Some month) None time some = absurd cc
parts_some (Some year) None day time some = absurd cc
parts_some None month day time some = absurd cc

date_bytes : (text : List ℕ) → IsSome (written_date text) → AllByRecursion IsDateByte text
date_bytes [] some = absurd cc
date_bytes (a ∷ []) some = absurd cc
date_bytes (a ∷ b ∷ []) some = absurd cc
date_bytes (a ∷ b ∷ c ∷ []) some = absurd cc
date_bytes (a ∷ b ∷ c ∷ d ∷ []) some = absurd cc
date_bytes (a ∷ b ∷ c ∷ d ∷ p ∷ []) some = absurd cc
date_bytes (a ∷ b ∷ c ∷ d ∷ p ∷ e ∷ []) some = absurd cc
date_bytes (a ∷ b ∷ c ∷ d ∷ p ∷ e ∷ f ∷ []) some = absurd cc
date_bytes (a ∷ b ∷ c ∷ d ∷ p ∷ e ∷ f ∷ q ∷ []) some = absurd cc
date_bytes (a ∷ b ∷ c ∷ d ∷ p ∷ e ∷ f ∷ q ∷ g ∷ []) some = absurd cc
date_bytes (a ∷ b ∷ c ∷ d ∷ p ∷ e ∷ f ∷ q ∷ g ∷ h ∷ rest) some = elim (cases_Bool ((p == 45) && (q == 45))) [
  | inl dashes ↦
      let parts = parts_some (number4 a b c d) (number2 e f) (number2 g h) (time_text rest) (rw dashes at some) in
      let year = both_some 100 (number2 a b) (number2 c d) parts.0 in
      let century = two_bytes a b year.0 in
      let of_century = two_bytes c d year.1 in
      let month = two_bytes e f parts.1 in
      let day = two_bytes g h parts.2 in
      let dash : IsDateByte p × IsDateByte q = (grind (arith, nat_tests), grind (arith, nat_tests)) in
      let from_day = with_two g h rest day (time_bytes rest parts.3) in
      let from_month = with_two e f (q ∷ g ∷ h ∷ rest) month (dash.1, from_day) in
      let behind_century = with_two c d (p ∷ e ∷ f ∷ q ∷ g ∷ h ∷ rest) of_century (dash.0, from_month) in
      with_two a b (c ∷ d ∷ p ∷ e ∷ f ∷ q ∷ g ∷ h ∷ rest) century behind_century
  | inr other ↦ let some' = rw other at some in absurd cc
]

-- The equation for any sign is checked at each of the signs but the first.
sign_rest : (sign : Sign) → list_all is_sign_end (drop 1 (sign_text sign)) ≡ true
sign_rest S.Colon = refl
sign_rest sign = refl

sign_later : (text : List ℕ) → list_all is_sign_end (drop 1 text) ≡ true → (k : ℕ) → suc k < length text
    → is_sign_end (get_or text (suc k) 0) ≡ true
sign_later text rest k within =
    let each = AllPass-from_list_all is_sign_end (drop 1 text) rest in
    let there : get_or (drop 1 text) k 0 ≡ get_or text (suc k) 0 =
    get_or_after_one text k 0 ∙ ap (λ i. get_or text i 0) (omega arith) in
    let here = All-get_or (λ b. is_sign_end b ≡ true) (drop 1 text) k 0 (omega (arith, length-drop 1 text)) each in
    ap is_sign_end (sym there) ∙ here

-- each byte behind the first of a token is one that may stand there
later : (kind : TokenKind) (text : List ℕ) → class_of_kind kind ≢ c.quote → HasForm kind text
    → (k : ℕ) → suc k < length text → is_later (class_of_kind kind) (get_or text (suc k) 0) ≡ true
later K.Word text plain f k within = f.0.each (suc k) within
later (K.Reserved keyword) text plain f k within =
    let word = subst IsWord f (keyword_is_word keyword) in word.each (suc k) within
later K.Number text plain f k within = digit_byte (get_or text (suc k) 0) (f.each (suc k) within)
later K.Date text plain f k within =
    All-get_or IsDateByte text (suc k) 0 within (All-from_recursion IsDateByte text (date_bytes text f))
later K.Str text plain f k within = absurd (plain refl)
later (K.Sign sign) text plain f k within =
    sign_later text (subst (λ t. list_all is_sign_end (drop 1 t) ≡ true) f (sign_rest sign)) k within

-- ---- what is taken

string_found : (bytes : List ℕ) (n : ℕ) → IsString (take n bytes) → n ≤ length bytes → IsFirst K.Str n bytes
string_found [] n string within = let f = (first_class K.Str n [] string).0 in absurd (omega arith)
string_found (b ∷ bytes) n string within =
    subst (Stands (b ∷ bytes)) (string_exact (b ∷ bytes) n within string) (step_stands b bytes)

-- the byte behind the text
behind_ends : (kind : TokenKind) (text rest : List ℕ) → Ends kind rest → length text < length (text ++ rest)
    → is_later (class_of_kind kind) (get_or (text ++ rest) (length text) 0) ≡ false
behind_ends kind text [] ends more = absurd (omega (arith, length-append text []))
behind_ends kind text (b ∷ rest) ends more = ap (is_later (class_of_kind kind)) (get_or-append_seam text b rest 0) ∙ ends

word_stops : (b : ℕ) → is_later c.letter b ≡ false → is_word_byte b ≡ false
word_stops b h = h

number_stops : (b : ℕ) → is_later c.digit b ≡ false → is_digit b ≡ false
number_stops b h = grind (arith, nat_tests)

module _ (text rest : List ℕ) where
  within : length text ≤ length (text ++ rest)
  within = omega (arith, length-append text rest)

  -- the text ends where the run of bytes that pass ends
  run_ends : (test : ℕ → Bool)
      → (length text < length (text ++ rest) → test (get_or (text ++ rest) (length text) 0) ≡ false)
      → ((k : ℕ) → k < length text → test (get_or text k 0) ≡ true)
      → length text ≡ prefix_len test (text ++ rest)
  run_ends test stops each =
      sym (prefix_len_is test (text ++ rest) (length text) 0 within
      (λ k lt. ap test (get_or-append text rest 0 k lt) ∙ each k lt) stops)

  front : take (length text) (text ++ rest) ≡ text
  front = take_at text rest (length text) refl

  -- a longer text would go on there
  not_longer : (kind other : TokenKind) (m : ℕ) → class_of_kind other ≡ class_of_kind kind → class_of_kind kind ≢ c.quote
      → Ends kind rest → 0 < length text → length text < m → m ≤ length (text ++ rest)
      → HasForm other (take m (text ++ rest)) → ⊥
  not_longer kind other m same plain ends some lt le form =
      let bytes : List ℕ = text ++ rest in
      let n = length text in
      let size = length-take-le m bytes le in
      let last : suc (n - 1) ≡ n = omega arith in
      let held : is_later (class_of_kind other) (get_or (take m bytes) (suc (n - 1)) 0) ≡ true =
      later other (take m bytes) (λ quote. plain (sym same ∙ quote)) form (n - 1) (omega arith) in
      let here : is_later (class_of_kind kind) (get_or (take m bytes) n 0) ≡ true =
      subst (λ k. is_later (class_of_kind kind) (get_or (take m bytes) k 0) ≡ true) last
      (subst (λ (class : Class). is_later class (get_or (take m bytes) (suc (n - 1)) 0) ≡ true) same held) in
      let there : is_later (class_of_kind kind) (get_or bytes n 0) ≡ false = behind_ends kind text rest ends (omega arith) in
      false≢true (sym there ∙ ap (is_later (class_of_kind kind)) (sym (get_or-take m bytes n 0 lt)) ∙ here)

  plain_first : (kind : TokenKind) → class_of_kind kind ≢ c.quote → HasForm kind text → Ends kind rest
      → IsFirst kind (length text) (text ++ rest)
  plain_first kind plain form ends =
      let bytes : List ℕ = text ++ rest in
      let form' : HasForm kind (take (length text) bytes) = subst (HasForm kind) (sym front) form in
      let first = first_class kind (length text) bytes form' in
      let class : class_of (get_or bytes 0 0) ≡ class_of_kind kind = first.1 in
      let same : class_of (get_or text 0 0) ≡ class_of (get_or bytes 0 0) = (begins kind text form).class ∙ sym class in
      record {
        within = within;
        form = form';
        longest = λ other m lt le f.
            not_longer kind other m (sym (first_class other m bytes f).1 ∙ class) plain ends first.0 lt le f;
        word = λ letter.
            let is = letter_class (get_or bytes 0 0) letter in
            let word = letter_form kind text (same ∙ is) form in
            run_ends is_word_byte (λ more. word_stops (get_or bytes (length text) 0)
            (subst (λ (k : Class). is_later k (get_or bytes (length text) 0) ≡ false) (sym class ∙ is) (behind_ends kind text rest ends more)))
            word.each;
        number = λ digit none.
            let is = digit_class (get_or bytes 0 0) digit in
            elim (digit_form kind text (same ∙ is) form) [
              | inl number ↦ run_ends is_digit (λ more. number_stops (get_or bytes (length text) 0)
                  (subst (λ (k : Class). is_later k (get_or bytes (length text) 0) ≡ false) (sym class ∙ is) (behind_ends kind text rest ends more)))
                  number.each
              | inr date ↦ absurd (none (length text, subst (λ t. IsSome (written_date t)) (sym front) date))
            ];
      }

  pub token_first : (kind : TokenKind) → HasForm kind text → Ends kind rest → IsFirst kind (length text) (text ++ rest)
  token_first K.Str form ends = string_found (text ++ rest) (length text) (subst IsString (sym front) form) within
  token_first K.Word form ends = plain_first K.Word (λ e. absurd cc) form ends
  token_first (K.Reserved keyword) form ends = plain_first (K.Reserved keyword) (λ e. absurd cc) form ends
  token_first K.Number form ends = plain_first K.Number (λ e. absurd cc) form ends
  token_first K.Date form ends = plain_first K.Date (λ e. absurd cc) form ends
  token_first (K.Sign sign) form ends = plain_first (K.Sign sign) (λ e. absurd cc) form ends
