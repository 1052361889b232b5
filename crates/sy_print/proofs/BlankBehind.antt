-- A token with a blank behind it is the one that is taken at the front.
use Rattle.std.proofs.Common.{◌≡◌, ◌≢◌, ℕ, ◌<◌, ◌≤◌, Bool, true, false, not, ◌&&◌, ◌==◌, List, [], ◌∷◌, ◌++◌, length, get_or, take, Option, Some, None, refl, sym, ap, subst, ◌∙◌, arith, inl, inr, length-append}
use Rattle.std.specs.Prelude.{IsSome}
use Rattle.std.specs.List.{prefix_len, list_all, All, AllByRecursion}
use Rattle.std.proofs.lemmas.Bool.{cases_Bool, false≢true}
use Rattle.std.proofs.lemmas.Bool.Decides.{nat_tests}
use Rattle.std.proofs.lemmas.List.{take_at, get_or-take, length-take-le}
use Rattle.std.proofs.lemmas.List.Elements.{All-get_or, All-from_recursion}
use Rattle.std.proofs.lemmas.List.Sums.{AllPass-from_list_all, prefix_len_is}
use Rattle.std.proofs.Math.ListN.{get_or-append}
use Rattle.std.proofs.Math.Seq.{get_or-append_seam}
use Rattle.sy_base.specs.Dates.{TimeOfDay, value_of_digit, joined, number2, number4, time_text, at_hour, at_minute, with_parts, written_date}
use Rattle.sy_lex.specs.declared.token.TokenKind.{TokenKind}
use Rattle.sy_lex.specs.declared.token.TokenKind.TheVariants as K
use Rattle.sy_lex.specs.declared.sign.Sign.{Sign}
use Rattle.sy_lex.specs.declared.sign.Sign.TheVariants as S
use Rattle.sy_lex.specs.Bytes.{is_digit, is_word_byte, is_blank}
use Rattle.sy_lex.specs.Signs.{sign_text}
use Rattle.sy_lex.specs.Forms.{IsWord, IsString, HasForm}
use Rattle.sy_lex.specs.Tokens.{IsFirst}
use Rattle.sy_lex.proofs.Begins as c
use Rattle.sy_lex.proofs.Begins.{class_of, class_of_kind, begins, letter_class, digit_class, letter_form, digit_form}
use Rattle.sy_lex.proofs.Firsts.{first_class}
use Rattle.sy_lex.proofs.Stands.{Stands, step_stands}
use Rattle.sy_lex.proofs.Strings.{string_exact}
use Rattle.sy_lex.proofs.Words.{keyword_is_word}

-- ---- only a text between quotes holds a blank

-- the byte is no blank
abbrev is_bare : ℕ → Bool
is_bare b = not (is_blank b)

abbrev IsBareByte : ℕ → Type 0
IsBareByte b = is_bare b ≡ true

word_bare : (b : ℕ) → is_word_byte b ≡ true → IsBareByte b
word_bare b h = grind (arith, nat_tests)

digit_bare : (b : ℕ) → is_digit b ≡ true → IsBareByte b
digit_bare b h = grind (arith, nat_tests)

-- The equation for any sign is checked at each of the signs but the first.
sign_bare : (sign : Sign) → list_all is_bare (sign_text sign) ≡ true
sign_bare S.Colon = refl
sign_bare sign = refl

value_bare : (b : ℕ) → IsSome (value_of_digit b) → IsBareByte b
value_bare b some = elim (cases_Bool (is_digit b)) [
  | inl digit ↦ digit_bare b digit
  | inr other ↦ let some' = rw other at some in absurd cc
]

both_some : (base : ℕ) (high low : Option ℕ) → IsSome (joined base high low) → IsSome high × IsSome low
both_some base (Some high) (Some low) some = (refl, refl)
both_some base (Some high) None some = absurd cc
both_some base None low some = absurd cc

two_bare : (a b : ℕ) → IsSome (number2 a b) → IsBareByte a × IsBareByte b
two_bare a b some = let both = both_some 10 _ _ some in (value_bare a both.0, value_bare b both.1)

with_two : (a b : ℕ) (rest : List ℕ) → IsBareByte a × IsBareByte b → AllByRecursion IsBareByte rest
    → AllByRecursion IsBareByte (a ∷ b ∷ rest)
with_two a b rest two others = (two.0, (two.1, others))

hour_some : (hour : Option ℕ) → IsSome (at_hour hour) → IsSome hour
hour_some (Some hour) some = refl
hour_some None some = absurd cc

minute_some : (hour minute : Option ℕ) → IsSome (at_minute hour minute) → IsSome hour × IsSome minute
minute_some (Some hour) (Some minute) some = (refl, refl)
minute_some (Some hour) None some = absurd cc
minute_some None minute some = absurd cc

time_bare : (rest : List ℕ) → IsSome (time_text rest) → AllByRecursion IsBareByte rest
time_bare [] some = tt
time_bare (t ∷ []) some = absurd cc
time_bare (t ∷ a ∷ []) some = absurd cc
time_bare (t ∷ a ∷ b ∷ []) some = elim (cases_Bool (t == 84)) [
  | inl is ↦
      let two = two_bare a b (hour_some (number2 a b) (rw is at some)) in
      (grind (arith, nat_tests), with_two a b [] two tt)
  | inr other ↦ let some' = rw other at some in absurd cc
]
time_bare (t ∷ a ∷ b ∷ s ∷ []) some = absurd cc
time_bare (t ∷ a ∷ b ∷ s ∷ c ∷ []) some = absurd cc
time_bare (t ∷ a ∷ b ∷ s ∷ c ∷ d ∷ []) some = elim (cases_Bool ((t == 84) && (s == 58))) [
  | inl is ↦
      let both = minute_some (number2 a b) (number2 c d) (rw is at some) in
      let minute = with_two c d [] (two_bare c d both.1) tt in
      (grind (arith, nat_tests), with_two a b (s ∷ c ∷ d ∷ []) (two_bare a b both.0) (grind (arith, nat_tests), minute))
  | inr other ↦ let some' = rw other at some in absurd cc
]
time_bare (t ∷ a ∷ b ∷ s ∷ c ∷ d ∷ e ∷ rest) some = absurd cc

parts_some : (year month day : Option ℕ) (time : Option TimeOfDay) → IsSome (with_parts year month day time)
    → IsSome year × IsSome month × IsSome day × IsSome time
parts_some (Some year) (Some month) (Some day) (Some time) some = (refl, refl, refl, refl)
parts_some (Some year) (Some month) (Some day) None some = absurd cc
parts_some (Some year) (Some month) None time some = absurd cc
parts_some (Some year) None day time some = absurd cc
parts_some None month day time some = absurd cc

date_bare : (text : List ℕ) → IsSome (written_date text) → AllByRecursion IsBareByte text
date_bare [] some = absurd cc
date_bare (a ∷ []) some = absurd cc
date_bare (a ∷ b ∷ []) some = absurd cc
date_bare (a ∷ b ∷ c ∷ []) some = absurd cc
date_bare (a ∷ b ∷ c ∷ d ∷ []) some = absurd cc
date_bare (a ∷ b ∷ c ∷ d ∷ p ∷ []) some = absurd cc
date_bare (a ∷ b ∷ c ∷ d ∷ p ∷ e ∷ []) some = absurd cc
date_bare (a ∷ b ∷ c ∷ d ∷ p ∷ e ∷ f ∷ []) some = absurd cc
date_bare (a ∷ b ∷ c ∷ d ∷ p ∷ e ∷ f ∷ q ∷ []) some = absurd cc
date_bare (a ∷ b ∷ c ∷ d ∷ p ∷ e ∷ f ∷ q ∷ g ∷ []) some = absurd cc
date_bare (a ∷ b ∷ c ∷ d ∷ p ∷ e ∷ f ∷ q ∷ g ∷ h ∷ rest) some = elim (cases_Bool ((p == 45) && (q == 45))) [
  | inl dashes ↦
      let parts = parts_some (number4 a b c d) (number2 e f) (number2 g h) (time_text rest) (rw dashes at some) in
      let year = both_some 100 (number2 a b) (number2 c d) parts.0 in
      let century = two_bare a b year.0 in
      let of_century = two_bare c d year.1 in
      let month = two_bare e f parts.1 in
      let day = two_bare g h parts.2 in
      let dash : IsBareByte p × IsBareByte q = (grind (arith, nat_tests), grind (arith, nat_tests)) in
      let from_day = with_two g h rest day (time_bare rest parts.3) in
      let from_month = with_two e f (q ∷ g ∷ h ∷ rest) month (dash.1, from_day) in
      let behind_century = with_two c d (p ∷ e ∷ f ∷ q ∷ g ∷ h ∷ rest) of_century (dash.0, from_month) in
      with_two a b (c ∷ d ∷ p ∷ e ∷ f ∷ q ∷ g ∷ h ∷ rest) century behind_century
  | inr other ↦ let some' = rw other at some in absurd cc
]

-- no byte of a token is a blank, but for those that begin with a quote
bare : (kind : TokenKind) (text : List ℕ) → class_of_kind kind ≢ c.quote → HasForm kind text
    → (k : ℕ) → k < length text → IsBareByte (get_or text k 0)
bare K.Word text plain f k within = word_bare (get_or text k 0) (f.0.each k within)
bare (K.Reserved keyword) text plain f k within =
    let word = subst IsWord f (keyword_is_word keyword) in word_bare (get_or text k 0) (word.each k within)
bare K.Number text plain f k within = digit_bare (get_or text k 0) (f.each k within)
bare K.Date text plain f k within =
    All-get_or IsBareByte text k 0 within (All-from_recursion IsBareByte text (date_bare text f))
bare K.Str text plain f k within = absurd (plain refl)
bare (K.Sign sign) text plain f k within =
    let each = AllPass-from_list_all is_bare (sign_text sign) (sign_bare sign) in
    All-get_or IsBareByte text k 0 within (subst (All IsBareByte) f each)

-- ---- what is taken

string_found : (bytes : List ℕ) (n : ℕ) → IsString (take n bytes) → n ≤ length bytes → IsFirst K.Str n bytes
string_found [] n string within = let f = (first_class K.Str n [] string).0 in absurd (omega arith)
string_found (b ∷ bytes) n string within =
    subst (Stands (b ∷ bytes)) (string_exact (b ∷ bytes) n within string) (step_stands b bytes)

module _ (text : List ℕ) (behind : ℕ) (rest : List ℕ) (blank : is_blank behind ≡ true) where
  within : length text ≤ length (text ++ behind ∷ rest)
  within = omega (arith, length-append text (behind ∷ rest))

  -- the text ends where the run of bytes that pass ends
  run_ends : (test : ℕ → Bool) → test behind ≡ false → ((k : ℕ) → k < length text → test (get_or text k 0) ≡ true)
      → length text ≡ prefix_len test (text ++ behind ∷ rest)
  run_ends test stops each =
      sym (prefix_len_is test (text ++ behind ∷ rest) (length text) 0 within
      (λ k lt. ap test (get_or-append text (behind ∷ rest) 0 k lt) ∙ each k lt)
      (λ lt. ap test (get_or-append_seam text behind rest 0) ∙ stops))

  front : take (length text) (text ++ behind ∷ rest) ≡ text
  front = take_at text (behind ∷ rest) (length text) refl

  -- a longer front holds the blank
  not_longer : (kind : TokenKind) (m : ℕ) → class_of_kind kind ≢ c.quote → length text < m
      → m ≤ length (text ++ behind ∷ rest) → HasForm kind (take m (text ++ behind ∷ rest)) → ⊥
  not_longer kind m plain lt le form =
      let bytes : List ℕ = text ++ behind ∷ rest in
      let n = length text in
      let size = length-take-le m bytes le in
      let here : is_bare (get_or (take m bytes) n 0) ≡ true = bare kind (take m bytes) plain form n (omega arith) in
      let is : get_or (take m bytes) n 0 ≡ behind = get_or-take m bytes n 0 lt ∙ get_or-append_seam text behind rest 0 in
      let clear : is_bare behind ≡ true = ap is_bare (sym is) ∙ here in
      false≢true (ap not (sym blank) ∙ clear)

  plain_first : (kind : TokenKind) → class_of_kind kind ≢ c.quote → HasForm kind text
      → IsFirst kind (length text) (text ++ behind ∷ rest)
  plain_first kind plain form =
      let bytes : List ℕ = text ++ behind ∷ rest in
      let form' : HasForm kind (take (length text) bytes) = subst (HasForm kind) (sym front) form in
      let class : class_of (get_or bytes 0 0) ≡ class_of_kind kind = (first_class kind (length text) bytes form').1 in
      let same : class_of (get_or text 0 0) ≡ class_of (get_or bytes 0 0) = (begins kind text form).class ∙ sym class in
      record {
        within = within;
        form = form';
        longest = λ other m lt le f.
            not_longer other m (λ quote. plain (sym class ∙ (first_class other m bytes f).1 ∙ quote)) lt le f;
        word = λ letter.
            let word = letter_form kind text (same ∙ letter_class (get_or bytes 0 0) letter) form in
            run_ends is_word_byte (grind (arith, nat_tests)) word.each;
        number = λ digit none.
            elim (digit_form kind text (same ∙ digit_class (get_or bytes 0 0) digit) form) [
              | inl number ↦ run_ends is_digit (grind (arith, nat_tests)) number.each
              | inr date ↦ absurd (none (length text, subst (λ t. IsSome (written_date t)) (sym front) date))
            ];
      }

  pub token_first : (kind : TokenKind) → HasForm kind text → IsFirst kind (length text) (text ++ behind ∷ rest)
  token_first K.Str form =
      string_found (text ++ behind ∷ rest) (length text) (subst IsString (sym front) form) within
  token_first K.Word form = plain_first K.Word (λ e. absurd cc) form
  token_first (K.Reserved keyword) form = plain_first (K.Reserved keyword) (λ e. absurd cc) form
  token_first K.Number form = plain_first K.Number (λ e. absurd cc) form
  token_first K.Date form = plain_first K.Date (λ e. absurd cc) form
  token_first (K.Sign sign) form = plain_first (K.Sign sign) (λ e. absurd cc) form
