-- Which texts have the form of a date, and the longest date at the front of bytes.
use Rattle.std.proofs.Common.{◌≡◌, ℕ, zero, suc, ◌<◌, ◌≤◌, Bool, true, false, ◌&&◌, ◌||◌, ◌==◌, if◌then◌else◌, List, [], ◌∷◌, ◌+◌, length, get_or, take, Option, Some, None, min, refl, sym, subst, arith, inl, inr, ◌⊎◌}
use Rattle.std.specs.Prelude.{IsSome}
use Rattle.std.specs.List.{list_all}
use Rattle.std.proofs.lemmas.Bool.{cases_Bool, false≢true, and_parts, eqb-true, leb-true, le-leb, and_from}
use Rattle.std.proofs.lemmas.List.{length-take-le, take_min}
use Rattle.sy_base.specs.Dates.{TimeOfDay, at_hour, at_minute, joined, number4, number2, time_text, value_of_digit, with_parts, written_date}
use Rattle.sy_lex.specs.Bytes.{is_digit}
use Rattle.sy_lex.specs.Machine.Cutting.{begins_date, date_length}
use Rattle.sy_lex.specs.Tokens.{BeginsDate}

-- how many bytes dates have
abbrev pub IsDateSize : ℕ → Type 0
IsDateSize n = (n ≡ 10) ⊎ ((n ≡ 13) ⊎ (n ≡ 16))

-- what every date has
pub record DateShape (text : List ℕ) : Type 0 where
  pub size : IsDateSize (length text)
  pub digit : is_digit (get_or text 0 0) ≡ true
  pub dash : get_or text 4 0 ≡ 45

parts_are : (year month day : Option ℕ) (time : Option TimeOfDay) → IsSome (with_parts year month day time)
    → IsSome year × IsSome time
parts_are (Some year) (Some month) (Some day) (Some time) some = (refl, refl)
parts_are (Some year) (Some month) (Some day) None some = absurd cc
parts_are (Some year) (Some month) None time some = absurd cc
parts_are (Some year) None day time some = absurd cc
parts_are None month day time some = absurd cc

first_digit : (a b c d : ℕ) → IsSome (number4 a b c d) → is_digit a ≡ true
first_digit a b c d some =
    elim (cases_Bool (is_digit a)) [ inl digit ↦ digit | inr other ↦ let some' = rw other at some in absurd cc ]

time_size : (rest : List ℕ) → IsSome (time_text rest) → (length rest ≡ 0) ⊎ ((length rest ≡ 3) ⊎ (length rest ≡ 6))
time_size [] some = inl refl
time_size (a ∷ []) some = absurd cc
time_size (a ∷ b ∷ []) some = absurd cc
time_size (a ∷ b ∷ c ∷ []) some = inr (inl (omega arith))
time_size (a ∷ b ∷ c ∷ d ∷ []) some = absurd cc
time_size (a ∷ b ∷ c ∷ d ∷ e ∷ []) some = absurd cc
time_size (a ∷ b ∷ c ∷ d ∷ e ∷ f ∷ []) some = inr (inr (omega arith))
time_size (a ∷ b ∷ c ∷ d ∷ e ∷ f ∷ g ∷ rest) some = absurd cc

date_size : (m n : ℕ) → n ≡ m + 10 → (m ≡ 0) ⊎ ((m ≡ 3) ⊎ (m ≡ 6)) → IsDateSize n
date_size m n is (inl e) = inl (omega arith)
date_size m n is (inr (inl e)) = inr (inl (omega arith))
date_size m n is (inr (inr e)) = inr (inr (omega arith))

pub date_shape : (text : List ℕ) → IsSome (written_date text) → DateShape text
date_shape [] some = absurd cc
date_shape (a ∷ []) some = absurd cc
date_shape (a ∷ b ∷ []) some = absurd cc
date_shape (a ∷ b ∷ c ∷ []) some = absurd cc
date_shape (a ∷ b ∷ c ∷ d ∷ []) some = absurd cc
date_shape (a ∷ b ∷ c ∷ d ∷ p ∷ []) some = absurd cc
date_shape (a ∷ b ∷ c ∷ d ∷ p ∷ e ∷ []) some = absurd cc
date_shape (a ∷ b ∷ c ∷ d ∷ p ∷ e ∷ f ∷ []) some = absurd cc
date_shape (a ∷ b ∷ c ∷ d ∷ p ∷ e ∷ f ∷ q ∷ []) some = absurd cc
date_shape (a ∷ b ∷ c ∷ d ∷ p ∷ e ∷ f ∷ q ∷ g ∷ []) some = absurd cc
date_shape (a ∷ b ∷ c ∷ d ∷ p ∷ e ∷ f ∷ q ∷ g ∷ h ∷ rest) some = elim (cases_Bool ((p == 45) && (q == 45))) [
  | inl dashes ↦
      let parts = parts_are (number4 a b c d) (number2 e f) (number2 g h) (time_text rest) (rw dashes at some) in
      record {
        size = date_size (length rest) _ (omega arith) (time_size rest parts.1);
        digit = first_digit a b c d parts.0;
        dash = eqb-true p 45 (and_parts (p == 45) (q == 45) dashes).0;
      }
  | inr none ↦ let some' = rw none at some in absurd cc
]

begins : (n : ℕ) (bytes : List ℕ) → n ≤ length bytes → IsSome (written_date (take n bytes))
    → begins_date n bytes ≡ true
begins n bytes within some = and_from _ _ (le-leb n (length bytes) within) some

begun : (n : ℕ) (bytes : List ℕ) → begins_date n bytes ≡ true
    → (n ≤ length bytes) × IsSome (written_date (take n bytes))
begun n bytes h = let parts = and_parts _ _ h in (leb-true n (length bytes) parts.0, parts.1)

abbrev first_size : Bool → Bool → Bool → Option ℕ
first_size a b c = if a then Some 16 else (if b then Some 13 else (if c then Some 10 else None))

size_found : (P : ℕ → Type 0) (a b c : Bool) (n : ℕ) → (a ≡ true → P 16) → (b ≡ true → P 13) → (c ≡ true → P 10)
    → first_size a b c ≡ Some n → P n
size_found P true b c n p16 p13 p10 is = let e : 16 ≡ n = cc in subst P e (p16 refl)
size_found P false true c n p16 p13 p10 is = let e : 13 ≡ n = cc in subst P e (p13 refl)
size_found P false false true n p16 p13 p10 is = let e : 10 ≡ n = cc in subst P e (p10 refl)
size_found P false false false n p16 p13 p10 is = absurd cc

size_most : (a b c : Bool) (m : ℕ) → IsDateSize m → (m ≡ 16 → a ≡ true) → (m ≡ 13 → b ≡ true) → (m ≡ 10 → c ≡ true)
    → (n : ℕ) × (first_size a b c ≡ Some n) × (m ≤ n)
size_most true b c m size p16 p13 p10 = (16, refl, grind arith)
size_most false true c m (inr (inr e)) p16 p13 p10 = absurd (false≢true (p16 e))
size_most false true c m (inr (inl e)) p16 p13 p10 = (13, refl, omega arith)
size_most false true c m (inl e) p16 p13 p10 = (13, refl, omega arith)
size_most false false true m (inr (inr e)) p16 p13 p10 = absurd (false≢true (p16 e))
size_most false false true m (inr (inl e)) p16 p13 p10 = absurd (false≢true (p13 e))
size_most false false true m (inl e) p16 p13 p10 = (10, refl, omega arith)
size_most false false false m (inr (inr e)) p16 p13 p10 = absurd (false≢true (p16 e))
size_most false false false m (inr (inl e)) p16 p13 p10 = absurd (false≢true (p13 e))
size_most false false false m (inl e) p16 p13 p10 = absurd (false≢true (p10 e))

-- the longest date is there, and has the form
pub date_found : (bytes : List ℕ) (n : ℕ) → date_length bytes ≡ Some n
    → (n ≤ length bytes) × IsSome (written_date (take n bytes))
date_found bytes n is =
    size_found (λ k. (k ≤ length bytes) × IsSome (written_date (take k bytes))) _ _ _ n (begun 16 bytes) (begun 13 bytes)
    (begun 10 bytes) is

-- no date is longer than the longest
pub date_most : (bytes : List ℕ) (m : ℕ) → m ≤ length bytes → IsSome (written_date (take m bytes))
    → (n : ℕ) × (date_length bytes ≡ Some n) × (m ≤ n)
date_most bytes m within some =
    let size = subst IsDateSize (length-take-le m bytes within) (date_shape (take m bytes) some).size in
    let here = λ (k : ℕ) (e : m ≡ k). subst (λ (n : ℕ). begins_date n bytes ≡ true) e (begins m bytes within some) in
    size_most (begins_date 16 bytes) (begins_date 13 bytes) (begins_date 10 bytes) m size (here 16) (here 13) (here 10)

-- where a date begins, also past the end, one of those that are there begins
pub date_within : (bytes : List ℕ) → BeginsDate bytes
    → (m : ℕ) × (m ≤ length bytes) × IsSome (written_date (take m bytes))
date_within bytes begun = (min begun.0 (length bytes), omega arith, rw (take_min begun.0 bytes) begun.1)

-- ---- the bytes of dates

-- a digit, `-`, `:` or `T`
abbrev pub is_date_byte : ℕ → Bool
is_date_byte b = is_digit b || (b == 45) || (b == 58) || (b == 84)

abbrev AllDate : List ℕ → Type 0
AllDate text = list_all is_date_byte text ≡ true

onto : (b : ℕ) (text : List ℕ) → is_date_byte b ≡ true → AllDate text → AllDate (b ∷ text)
onto b text here there = and_from _ _ here there

digit_byte : (b : ℕ) → IsSome (value_of_digit b) → is_date_byte b ≡ true
digit_byte b some = elim (cases_Bool (is_digit b)) [ inl digit ↦ rw digit refl | inr other ↦ let some' = rw other at some in absurd cc ]

byte_is : (b a : ℕ) → (b == a) ≡ true → is_date_byte a ≡ true → is_date_byte b ≡ true
byte_is b a is date = subst (λ (x : ℕ). is_date_byte x ≡ true) (sym (eqb-true b a is)) date

joined_parts : (base : ℕ) (high low : Option ℕ) → IsSome (joined base high low) → IsSome high × IsSome low
joined_parts base (Some high) (Some low) some = (refl, refl)
joined_parts base (Some high) None some = absurd cc
joined_parts base None low some = absurd cc

two_bytes : (a b : ℕ) (text : List ℕ) → IsSome (number2 a b) → AllDate text → AllDate (a ∷ b ∷ text)
two_bytes a b text some all =
    let parts = joined_parts 10 (value_of_digit a) (value_of_digit b) some in
    onto a (b ∷ text) (digit_byte a parts.0) (onto b text (digit_byte b parts.1) all)

four_bytes : (a b c d : ℕ) (text : List ℕ) → IsSome (number4 a b c d) → AllDate text → AllDate (a ∷ b ∷ c ∷ d ∷ text)
four_bytes a b c d text some all =
    let parts = joined_parts 100 (number2 a b) (number2 c d) some in
    two_bytes a b (c ∷ d ∷ text) parts.0 (two_bytes c d text parts.1 all)

hour_is : (hour : Option ℕ) → IsSome (at_hour hour) → IsSome hour
hour_is (Some hour) some = refl
hour_is None some = absurd cc

minute_is : (hour minute : Option ℕ) → IsSome (at_minute hour minute) → IsSome hour × IsSome minute
minute_is (Some hour) (Some minute) some = (refl, refl)
minute_is (Some hour) None some = absurd cc
minute_is None minute some = absurd cc

time_bytes : (rest : List ℕ) → IsSome (time_text rest) → AllDate rest
time_bytes [] some = refl
time_bytes (t ∷ []) some = absurd cc
time_bytes (t ∷ a ∷ []) some = absurd cc
time_bytes (t ∷ a ∷ b ∷ []) some = elim (cases_Bool (t == 84)) [
  | inl h ↦ onto t (a ∷ b ∷ []) (byte_is t 84 h refl) (two_bytes a b [] (hour_is (number2 a b) (rw h at some)) refl)
  | inr h ↦ let some' = rw h at some in absurd cc
]
time_bytes (t ∷ a ∷ b ∷ s ∷ []) some = absurd cc
time_bytes (t ∷ a ∷ b ∷ s ∷ c ∷ []) some = absurd cc
time_bytes (t ∷ a ∷ b ∷ s ∷ c ∷ d ∷ []) some = elim (cases_Bool ((t == 84) && (s == 58))) [
  | inl h ↦
      let signs = and_parts (t == 84) (s == 58) h in
      let parts = minute_is (number2 a b) (number2 c d) (rw h at some) in
      onto t (a ∷ b ∷ s ∷ c ∷ d ∷ []) (byte_is t 84 signs.0 refl) (
      two_bytes a b (s ∷ c ∷ d ∷ []) parts.0 (onto s (c ∷ d ∷ []) (byte_is s 58 signs.1 refl) (two_bytes c d [] parts.1 refl)))
  | inr h ↦ let some' = rw h at some in absurd cc
]
time_bytes (t ∷ a ∷ b ∷ s ∷ c ∷ d ∷ e ∷ rest) some = absurd cc

all_parts : (year month day : Option ℕ) (time : Option TimeOfDay) → IsSome (with_parts year month day time) → IsSome year × IsSome month × IsSome day × IsSome time
all_parts (Some year) (Some month) (Some day) (Some time) some = (refl, refl, refl, refl)
all_parts (Some year) (Some month) (Some day) None some = absurd cc
all_parts (Some year) (Some month) None time some = absurd cc
all_parts (Some year) None day time some = absurd cc
all_parts None month day time some = absurd cc

all_date : (text : List ℕ) → IsSome (written_date text) → AllDate text
all_date [] some = absurd cc
all_date (a ∷ []) some = absurd cc
all_date (a ∷ b ∷ []) some = absurd cc
all_date (a ∷ b ∷ c ∷ []) some = absurd cc
all_date (a ∷ b ∷ c ∷ d ∷ []) some = absurd cc
all_date (a ∷ b ∷ c ∷ d ∷ p ∷ []) some = absurd cc
all_date (a ∷ b ∷ c ∷ d ∷ p ∷ e ∷ []) some = absurd cc
all_date (a ∷ b ∷ c ∷ d ∷ p ∷ e ∷ f ∷ []) some = absurd cc
all_date (a ∷ b ∷ c ∷ d ∷ p ∷ e ∷ f ∷ q ∷ []) some = absurd cc
all_date (a ∷ b ∷ c ∷ d ∷ p ∷ e ∷ f ∷ q ∷ g ∷ []) some = absurd cc
all_date (a ∷ b ∷ c ∷ d ∷ p ∷ e ∷ f ∷ q ∷ g ∷ h ∷ rest) some = elim (cases_Bool ((p == 45) && (q == 45))) [
  | inl dashes ↦
      let signs = and_parts (p == 45) (q == 45) dashes in
      let parts = all_parts (number4 a b c d) (number2 e f) (number2 g h) (time_text rest) (rw dashes at some) in
      four_bytes a b c d (p ∷ e ∷ f ∷ q ∷ g ∷ h ∷ rest) parts.0 (
      onto p (e ∷ f ∷ q ∷ g ∷ h ∷ rest) (byte_is p 45 signs.0 refl) (
      two_bytes e f (q ∷ g ∷ h ∷ rest) parts.1 (
      onto q (g ∷ h ∷ rest) (byte_is q 45 signs.1 refl) (two_bytes g h rest parts.2 (time_bytes rest parts.3)))))
  | inr none ↦ let some' = rw none at some in absurd cc
]

each_passes : (text : List ℕ) (j : ℕ) → AllDate text → j < length text → is_date_byte (get_or text j 0) ≡ true
each_passes [] j all within = absurd (omega arith)
each_passes (b ∷ text) zero all within = (and_parts _ _ all).0
each_passes (b ∷ text) (suc j) all within = each_passes text j (and_parts _ _ all).1 (omega arith)

-- a date has no others
pub date_bytes : (text : List ℕ) → IsSome (written_date text) → (j : ℕ) → j < length text → is_date_byte (get_or text j 0) ≡ true
date_bytes text some j within = each_passes text j (all_date text some) within
