-- Where a step finds nothing: what stands there, that it goes wrong whatever comes behind the byte at which it does, and
-- how what was read up to there is completed.
use Rattle.std.proofs.Common.{◌≡◌, inl, inr, ℕ, ◌<◌, ◌≤◌, true, false, ◌==◌, nat_le, List, [], ◌∷◌, length, Option, Some, None, refl, sym, subst, ◌∙◌, arith}
use Rattle.std.specs.List.{prefix_len}
use Rattle.std.proofs.lemmas.Bool.{cases_Bool, eqb-true}
use Rattle.std.proofs.lemmas.Bool.Decides.{nat_tests}
use Rattle.std.proofs.lemmas.List.Sums.{prefix_len-le-length}
use Rattle.sy_lex.specs.declared.sign.Sign.{Sign}
use Rattle.sy_lex.specs.declared.step.Step.TheVariants as S
use Rattle.sy_lex.specs.Bytes.{is_letter, is_digit, is_word_byte, is_blank, is_quote}
use Rattle.sy_lex.specs.Signs.{first_of, sign_at, sign_of_one, sign_of_two}
use Rattle.sy_lex.specs.Machine.Cutting.{date_length, date_or_number, number_step, sign_or_fault, slash_step, step_at, string_step, word_step}
use Rattle.sy_lex.proofs.Begins as c
use Rattle.sy_lex.proofs.Begins.{Class, class_of, class_step, digit_class, letter_class, step_by_class}
use Rattle.sy_lex.proofs.Dates.{is_date_byte}
use Rattle.sy_lex.proofs.OpenStrings.{string_bad}

-- what a byte and those behind it are where so many of them begin nothing
pub data BadStep : ℕ → List ℕ → ℕ → Type 0 where
  long_word : (b : ℕ) (bytes : List ℕ) → class_of b ≡ c.letter → 64 < prefix_len is_word_byte (b ∷ bytes) → BadStep b bytes 64
  long_number : (b : ℕ) (bytes : List ℕ) → class_of b ≡ c.digit → 18 < prefix_len is_digit (b ∷ bytes) → BadStep b bytes 18
  open_string : (bytes : List ℕ) (m : ℕ) → string_step 256 1 bytes ≡ S.Bad m → BadStep 34 bytes m
  half_comment : (bytes : List ℕ) → ((rest : List ℕ) → bytes ≡ 47 ∷ rest → ⊥) → BadStep 47 bytes 1
  half_sign : (bytes : List ℕ) → sign_at (33 ∷ bytes) ≡ None → BadStep 33 bytes 1
  no_token : (b : ℕ) (bytes : List ℕ) → class_of b ≡ c.other → sign_at (b ∷ bytes) ≡ None → (b == 33) ≡ false → BadStep b bytes 0

bad_is : (m n : ℕ) → S.Bad n ≡ S.Bad m → n ≡ m
bad_is m n e = cc

word_bad : (b m : ℕ) (bytes : List ℕ) → class_of b ≡ c.letter → word_step (b ∷ bytes) ≡ S.Bad m → BadStep b bytes m
word_bad b m bytes class e = elim (cases_Bool (nat_le (prefix_len is_word_byte (b ∷ bytes)) 64)) [
  | inl fits ↦ let e' = rw fits at e in absurd cc
  | inr long ↦ subst (BadStep b bytes) (bad_is m 64 (rw long at e)) (long_word b bytes class (grind (arith, nat_tests)))
]

number_bad : (b m : ℕ) (bytes : List ℕ) → class_of b ≡ c.digit → number_step (b ∷ bytes) ≡ S.Bad m → BadStep b bytes m
number_bad b m bytes class e = elim (cases_Bool (nat_le (prefix_len is_digit (b ∷ bytes)) 18)) [
  | inl fits ↦ let e' = rw fits at e in absurd cc
  | inr long ↦ subst (BadStep b bytes) (bad_is m 18 (rw long at e)) (long_number b bytes class (grind (arith, nat_tests)))
]

digit_bad : (b m : ℕ) (bytes : List ℕ) (found : Option ℕ) → class_of b ≡ c.digit → date_or_number found (b ∷ bytes) ≡ S.Bad m → BadStep b bytes m
digit_bad b m bytes (Some n) class e = absurd cc
digit_bad b m bytes None class e = number_bad b m bytes class e

slash_bad : (m : ℕ) (bytes : List ℕ) → slash_step bytes ≡ S.Bad m → BadStep 47 bytes m
slash_bad m [] e = subst (BadStep 47 []) (bad_is m 1 e) (half_comment [] (λ rest is. absurd cc))
slash_bad m (x ∷ bytes) e = elim (cases_Bool (x == 47)) [
  | inl h ↦ let e' = rw h at e in absurd cc
  | inr h ↦ subst (BadStep 47 (x ∷ bytes)) (bad_is m 1 (rw h at e)) (half_comment (x ∷ bytes) (λ rest is. no_slash rest h is))
]
  where
    no_slash : (rest : List ℕ) → (x == 47) ≡ false → x ∷ bytes ≡ 47 ∷ rest → ⊥
    no_slash rest h is = let first : x ≡ 47 = cc in let h' = rw first at h in absurd cc

sign_bad : (b m : ℕ) (bytes : List ℕ) (found : Option Sign) → class_of b ≡ c.other → sign_at (b ∷ bytes) ≡ found → sign_or_fault found (b ∷ bytes) ≡ S.Bad m → BadStep b bytes m
sign_bad b m bytes (Some sign) class is e = absurd cc
sign_bad b m bytes None class is e = elim (cases_Bool (b == 33)) [
  | inl h ↦
      let half = half_sign bytes (subst (λ (x : ℕ). sign_at (x ∷ bytes) ≡ None) (eqb-true b 33 h) is) in
      subst (BadStep b bytes) (bad_is m 1 (rw h at e)) (subst (λ (x : ℕ). BadStep x bytes 1) (sym (eqb-true b 33 h)) half)
  | inr h ↦ subst (BadStep b bytes) (bad_is m 0 (rw h at e)) (no_token b bytes class is h)
]

by_class : (class : Class) (b m : ℕ) (bytes : List ℕ) → class_of b ≡ class → step_at (b ∷ bytes) ≡ S.Bad m → class_step class b bytes ≡ S.Bad m
by_class class b m bytes is e = sym (step_by_class b bytes class is) ∙ e

pub bad_step : (b m : ℕ) (bytes : List ℕ) → step_at (b ∷ bytes) ≡ S.Bad m → BadStep b bytes m
bad_step b m bytes e = elim (cases_Bool (is_quote b)) [
  | inl q ↦ subst (λ (x : ℕ). BadStep x bytes m) (sym (eqb-true b 34 q)) (open_string bytes m (by_class c.quote b m bytes (rw q refl) e))
  | inr q ↦ elim (cases_Bool (b == 47)) [
    | inl s ↦ subst (λ (x : ℕ). BadStep x bytes m) (sym (eqb-true b 47 s)) (slash_bad m bytes (by_class c.slash b m bytes (rw (q, s) refl) e))
    | inr s ↦ elim (cases_Bool (is_blank b)) [
      | inl k ↦ let e' = by_class c.blank b m bytes (rw (q, s, k) refl) e in absurd cc
      | inr k ↦ elim (cases_Bool (is_letter b)) [
        | inl l ↦ let class = letter_class b l in word_bad b m bytes class (by_class c.letter b m bytes class e)
        | inr l ↦ elim (cases_Bool (is_digit b)) [
          | inl d ↦ let class = digit_class b d in digit_bad b m bytes (date_length (b ∷ bytes)) class (by_class c.digit b m bytes class e)
          | inr d ↦
              let class : class_of b ≡ c.other = rw (q, s, k, l, d) refl in
              sign_bad b m bytes (sign_at (b ∷ bytes)) class refl (by_class c.other b m bytes class e)
        ]
      ]
    ]
  ]
]

pub bad_within : (b m : ℕ) (bytes : List ℕ) → BadStep b bytes m → m ≤ length (b ∷ bytes)
bad_within b m bytes (long_word _ _ class long) = omega (arith, prefix_len-le-length is_word_byte (b ∷ bytes))
bad_within b m bytes (long_number _ _ class long) = omega (arith, prefix_len-le-length is_digit (b ∷ bytes))
bad_within b m bytes (open_string _ _ e) = let w = string_bad 256 1 m bytes e in omega (arith, w.1, w.2.within)
bad_within b m bytes (half_comment _ none) = omega arith
bad_within b m bytes (half_sign _ none) = omega arith
bad_within b m bytes (no_token _ _ class none other) = omega arith

-- ---- a byte that dates have begins no short fault

first_some : (two : Option Sign) (one : Sign) → first_of two (Some one) ≡ None → ⊥
first_some (Some sign) one e = absurd cc
first_some None one e = absurd cc

single : (b : ℕ) (bytes : List ℕ) (sign : Sign) → sign_of_one b ≡ Some sign → sign_at (b ∷ bytes) ≡ None → ⊥
single b [] sign is e = let e' = sym is ∙ e in absurd cc
single b (x ∷ bytes) sign is e = first_some (sign_of_two b x) sign (subst (λ (one : Option Sign). first_of (sign_of_two b x) one ≡ None) is e)

no_sign : (b : ℕ) (bytes : List ℕ) → class_of b ≡ c.other → sign_at (b ∷ bytes) ≡ None → is_date_byte b ≡ true → ⊥
no_sign b bytes class none date = elim (cases_Bool (is_digit b)) [
  | inl d ↦ let class' = digit_class b d in absurd cc
  | inr d ↦ elim (cases_Bool (b == 45)) [
    | inl m ↦ let is = eqb-true b 45 m in single 45 bytes _ refl (subst (λ (x : ℕ). sign_at (x ∷ bytes) ≡ None) is none)
    | inr m ↦ elim (cases_Bool (b == 58)) [
      | inl s ↦ let is = eqb-true b 58 s in single 58 bytes _ refl (subst (λ (x : ℕ). sign_at (x ∷ bytes) ≡ None) is none)
      | inr s ↦ elim (cases_Bool (b == 84)) [
        | inl t ↦ let is = eqb-true b 84 t in let class' = letter_class b (rw is refl) in absurd cc
        | inr t ↦ let date' = rw (d, m, s, t) at date in absurd cc
      ]
    ]
  ]
]

pub no_short_fault : (b m : ℕ) (bytes : List ℕ) → BadStep b bytes m → m < 16 → is_date_byte b ≡ true → ⊥
no_short_fault b m bytes (long_word _ _ class long) short date = absurd (omega arith)
no_short_fault b m bytes (long_number _ _ class long) short date = absurd (omega arith)
no_short_fault b m bytes (open_string _ _ e) short date = absurd cc
no_short_fault b m bytes (half_comment _ none) short date = absurd cc
no_short_fault b m bytes (half_sign _ none) short date = absurd cc
no_short_fault b m bytes (no_token _ _ class none other) short date = no_sign b bytes class none date
