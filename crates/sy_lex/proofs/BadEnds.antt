-- Where a step finds nothing, it finds nothing whatever comes behind the byte at which it goes wrong; and what was read up to
-- there is completed by a few bytes.
use Rattle.std.proofs.Common.{◌≡◌, ◌⊎◌, inl, inr, ℕ, suc, ◌+◌, ◌<◌, ◌≤◌, Bool, true, false, ◌==◌, nat_le, List, [], ◌∷◌, ◌++◌, length, get_or, take, drop, Option, Some, None, refl, sym, ap, subst, ◌∙◌, arith}
use Rattle.std.specs.List.{prefix_len}
use Rattle.std.proofs.lemmas.Bool.{cases_Bool, eqb-true, le-leb}
use Rattle.std.proofs.lemmas.Bool.Decides.{nat_tests}
use Rattle.std.proofs.lemmas.List.{append-nil, get_or-take, length-append, length-take-le, take-append-drop}
use Rattle.std.proofs.lemmas.List.Folds.{prefix_len-append}
use Rattle.std.proofs.lemmas.List.Sums.{prefix_len-le-length, prefix_len_passes}
use Rattle.sy_lex.specs.declared.token.TokenKind.{TokenKind}
use Rattle.sy_lex.specs.declared.token.TokenKind.TheVariants as K
use Rattle.sy_lex.specs.declared.sign.Sign.{Sign}
use Rattle.sy_lex.specs.declared.sign.Sign.TheVariants as G
use Rattle.sy_lex.specs.declared.step.Step.TheVariants as S
use Rattle.sy_lex.specs.Bytes.{is_digit, is_word_byte}
use Rattle.sy_lex.specs.Keywords.{keyword_of}
use Rattle.sy_lex.specs.Signs.{first_of, sign_at, sign_of_one, sign_of_two}
use Rattle.sy_lex.specs.Machine.Cutting.{date_length, date_or_number, kind_of_word, number_step, sign_or_fault, step_at, word_step}
use Rattle.sy_lex.proofs.BadSteps as bad
use Rattle.sy_lex.proofs.BadSteps.{BadStep}
use Rattle.sy_lex.proofs.Begins as c
use Rattle.sy_lex.proofs.Begins.{class_of, step_by_class}
use Rattle.sy_lex.proofs.Dates.{date_found, date_shape}
use Rattle.sy_lex.proofs.Firsts.{date_or_digits}
use Rattle.sy_lex.proofs.OpenStrings.{string_bad}

-- ---- runs

-- a front of a run passes whole
run_all : (test : ℕ → Bool) (front rest : List ℕ) → length front ≤ prefix_len test (front ++ rest) → prefix_len test front ≡ length front
run_all test front rest long = elim (cases_Bool (prefix_len test front == length front)) [
  | inl all ↦ eqb-true _ _ all
  | inr stops ↦
      let one : prefix_len test (front ++ rest) ≡ prefix_len test front = prefix_len-append test front rest ∙ rw stops refl in
      omega (arith, one, prefix_len-le-length test front)
]

-- and the run with another rest is no shorter
run_goes : (test : ℕ → Bool) (front other : List ℕ) → prefix_len test front ≡ length front → length front ≤ prefix_len test (front ++ other)
run_goes test front other all = elim (cases_Bool (prefix_len test front == length front)) [
  | inl same ↦
      let one : prefix_len test (front ++ other) ≡ length front + prefix_len test other = prefix_len-append test front other ∙ rw same refl in
      omega (arith, one)
  | inr stops ↦
      let one : prefix_len test (front ++ other) ≡ prefix_len test front = prefix_len-append test front other ∙ rw stops refl in
      omega (arith, one, all)
]

-- digits begin no date
no_date : (bytes : List ℕ) (found : Option ℕ) → date_length bytes ≡ found → ((n : ℕ) → n ≤ 16 → n ≤ length bytes → n ≤ prefix_len is_digit bytes) → found ≡ None
no_date bytes None is digits = refl
no_date bytes (Some n) is digits =
    let found = date_found bytes n is in
    let size : length (take n bytes) ≡ n = length-take-le n bytes found.0 in
    let shape = date_shape (take n bytes) found.1 in
    let short : n ≤ 16 = grind (arith, size, shape.size) in
    let run = digits n short found.0 in
    absurd (date_or_digits bytes n n found.0 found.1 found.0 (omega arith) (λ k lt. prefix_len_passes is_digit bytes k 0 (omega (arith, run))))

-- ---- it goes wrong, whatever comes behind

word_stays : (b : ℕ) (bytes : List ℕ) → class_of b ≡ c.letter → 64 < prefix_len is_word_byte (b ∷ bytes) → step_at (b ∷ bytes) ≡ S.Bad 64
word_stays b bytes class long =
    let fits : nat_le (prefix_len is_word_byte (b ∷ bytes)) 64 ≡ false = grind (arith, nat_tests) in
    let step : word_step (b ∷ bytes) ≡ S.Bad 64 = rw fits refl in
    step_by_class b bytes c.letter class ∙ step

number_stays : (b : ℕ) (bytes : List ℕ) → class_of b ≡ c.digit → 18 < prefix_len is_digit (b ∷ bytes) → step_at (b ∷ bytes) ≡ S.Bad 18
number_stays b bytes class long =
    let none = no_date (b ∷ bytes) (date_length (b ∷ bytes)) refl (λ n short within. omega arith) in
    let fits : nat_le (prefix_len is_digit (b ∷ bytes)) 18 ≡ false = grind (arith, nat_tests) in
    let step : number_step (b ∷ bytes) ≡ S.Bad 18 = rw fits refl in
    step_by_class b bytes c.digit class ∙ (ap (λ (o : Option ℕ). date_or_number o (b ∷ bytes)) none ∙ step)

one_none : (b : ℕ) (bytes : List ℕ) → sign_at (b ∷ bytes) ≡ None → sign_of_one b ≡ None
one_none b [] e = e
one_none b (x ∷ bytes) e = last_none (sign_of_two b x) (sign_of_one b) e
  where
    last_none : (two one : Option Sign) → first_of two one ≡ None → one ≡ None
    last_none (Some sign) one e = absurd cc
    last_none None one e = e

no_single : (b a : ℕ) (sign : Sign) → (b == a) ≡ true → sign_of_one a ≡ Some sign → sign_of_one b ≡ None → ⊥
no_single b a sign h is none =
    let one : sign_of_one a ≡ None = subst (λ (x : ℕ). sign_of_one x ≡ None) (eqb-true b a h) none in
    let both = sym is ∙ one in
    absurd cc

two_none : (b x : ℕ) → sign_of_one b ≡ None → (b == 33) ≡ false → sign_of_two b x ≡ None
two_none b x none other = elim (cases_Bool (b == 58)) [
  | inl h ↦ absurd (no_single b 58 _ h refl none)
  | inr h58 ↦ elim (cases_Bool (b == 45)) [
    | inl h ↦ absurd (no_single b 45 _ h refl none)
    | inr h45 ↦ elim (cases_Bool (b == 60)) [
      | inl h ↦ absurd (no_single b 60 _ h refl none)
      | inr h60 ↦ elim (cases_Bool (b == 62)) [
        | inl h ↦ absurd (no_single b 62 _ h refl none)
        | inr h62 ↦ rw (h58, h45, other, h60, h62) refl
      ]
    ]
  ]
]

still_none : (b : ℕ) (bytes other : List ℕ) → sign_at (b ∷ bytes) ≡ None → (b == 33) ≡ false → sign_at (b ∷ other) ≡ None
still_none b bytes [] none h = one_none b bytes none
still_none b bytes (x ∷ other) none h =
    let one = one_none b bytes none in
    let two = two_none b x one h in
    rw (two, one) refl

pub bad_stays : (b m : ℕ) (bytes front rest other : List ℕ) → BadStep b bytes m → bytes ≡ front ++ rest → length front ≡ m → step_at (b ∷ front ++ other) ≡ S.Bad m
bad_stays b m bytes front rest other (bad.long_word _ _ class long) is size =
    let long' : 64 < prefix_len is_word_byte (b ∷ front ++ rest) = subst (λ (bs : List ℕ). 64 < prefix_len is_word_byte (b ∷ bs)) is long in
    let all = run_all is_word_byte (b ∷ front) rest (omega (arith, size)) in
    word_stays b (front ++ other) class (omega (arith, size, run_goes is_word_byte (b ∷ front) other all))
bad_stays b m bytes front rest other (bad.long_number _ _ class long) is size =
    let long' : 18 < prefix_len is_digit (b ∷ front ++ rest) = subst (λ (bs : List ℕ). 18 < prefix_len is_digit (b ∷ bs)) is long in
    let all = run_all is_digit (b ∷ front) rest (omega (arith, size)) in
    number_stays b (front ++ other) class (omega (arith, size, run_goes is_digit (b ∷ front) other all))
bad_stays b m bytes front rest other (bad.open_string _ _ e) is size =
    let w = string_bad 256 1 m bytes e in
    step_by_class 34 (front ++ other) c.quote refl ∙ (w.2.stays front rest other is (omega (arith, w.1)) ∙ ap S.Bad (sym w.1))
bad_stays b m bytes [] rest other (bad.half_comment _ none) is size = absurd (omega arith)
bad_stays b m bytes (x ∷ []) rest other (bad.half_comment _ none) is size = elim (cases_Bool (x == 47)) [
  | inl h ↦ absurd (none rest (is ∙ ap (λ (y : ℕ). y ∷ rest) (eqb-true x 47 h)))
  | inr h ↦ step_by_class 47 (x ∷ other) c.slash refl ∙ rw h refl
]
bad_stays b m bytes (x ∷ y ∷ front) rest other (bad.half_comment _ none) is size = absurd (omega arith)
bad_stays b m bytes [] rest other (bad.half_sign _ none) is size = absurd (omega arith)
bad_stays b m bytes (x ∷ []) rest other (bad.half_sign _ none) is size =
    let there : sign_at (33 ∷ x ∷ rest) ≡ None = subst (λ (bs : List ℕ). sign_at (33 ∷ bs) ≡ None) is none in
    step_by_class 33 (x ∷ other) c.other refl ∙ ap (λ (o : Option Sign). sign_or_fault o (33 ∷ x ∷ other)) there
bad_stays b m bytes (x ∷ y ∷ front) rest other (bad.half_sign _ none) is size = absurd (omega arith)
bad_stays b m bytes [] rest other (bad.no_token _ _ class none h) is size =
    let step : sign_or_fault None (b ∷ other) ≡ S.Bad 0 = rw h refl in
    step_by_class b other c.other class ∙ (ap (λ (o : Option Sign). sign_or_fault o (b ∷ other)) (still_none b bytes other none h) ∙ step)
bad_stays b m bytes (x ∷ front) rest other (bad.no_token _ _ class none h) is size = absurd (omega arith)

-- ---- it is completed

-- the bytes are one token or comment
abbrev pub IsOne : List ℕ → Type 0
IsOne text = ((kind : TokenKind) × (step_at text ≡ S.Token kind (length text))) ⊎ (step_at text ≡ S.Skip (length text))

one_word : (text : List ℕ) → 0 < length text → class_of (get_or text 0 0) ≡ c.letter → prefix_len is_word_byte text ≡ length text → length text ≤ 64 → IsOne text
one_word [] some class all short = absurd (omega arith)
one_word (b ∷ bytes) some class all short =
    let n = prefix_len is_word_byte (b ∷ bytes) in
    let fits : nat_le n 64 ≡ true = le-leb n 64 (omega (arith, all)) in
    let step : word_step (b ∷ bytes) ≡ S.Token (kind_of_word (keyword_of (take n (b ∷ bytes)))) n = rw fits refl in
    inl (kind_of_word (keyword_of (take n (b ∷ bytes))), step_by_class b bytes c.letter class ∙ (step ∙ ap (S.Token (kind_of_word (keyword_of (take n (b ∷ bytes))))) all))

one_number : (text : List ℕ) → 0 < length text → class_of (get_or text 0 0) ≡ c.digit → prefix_len is_digit text ≡ length text → length text ≤ 18 → IsOne text
one_number [] some class all short = absurd (omega arith)
one_number (b ∷ bytes) some class all short =
    let n = prefix_len is_digit (b ∷ bytes) in
    let none = no_date (b ∷ bytes) (date_length (b ∷ bytes)) refl (λ k small within. omega (arith, all)) in
    let fits : nat_le n 18 ≡ true = le-leb n 18 (omega (arith, all)) in
    let step : number_step (b ∷ bytes) ≡ S.Token K.Number n = rw fits refl in
    inl (K.Number, step_by_class b bytes c.digit class ∙ (ap (λ (o : Option ℕ). date_or_number o (b ∷ bytes)) none ∙ (step ∙ ap (S.Token K.Number) all)))

-- a front of a run is one token by itself
module _ (test : ℕ → Bool) (class : c.Class) (most : ℕ) (some : 0 < most)
    (one : (text : List ℕ) → 0 < length text → class_of (get_or text 0 0) ≡ class → prefix_len test text ≡ length text → length text ≤ most → IsOne text) where
  front_is_one : (b : ℕ) (bytes : List ℕ) → class_of b ≡ class → most < prefix_len test (b ∷ bytes) → IsOne (take most (b ∷ bytes) ++ [])
  front_is_one b bytes is long =
      let front = take most (b ∷ bytes) in
      let size : length front ≡ most = length-take-le most (b ∷ bytes) (omega (arith, prefix_len-le-length test (b ∷ bytes))) in
      let long' : most < prefix_len test (front ++ drop most (b ∷ bytes)) = rw (take-append-drop most (b ∷ bytes)) long in
      let all = run_all test front (drop most (b ∷ bytes)) (omega (arith, size)) in
      rw (append-nil front) (one front (omega (arith, size, some)) (ap class_of (get_or-take most (b ∷ bytes) 0 0 some) ∙ is) all (omega (arith, size)))

pub bad_completes : (b m : ℕ) (bytes : List ℕ) → BadStep b bytes m → (more : List ℕ) × (((m ≡ 0) × (more ≡ [])) ⊎ ((0 < m) × IsOne (take m (b ∷ bytes) ++ more)))
bad_completes b m bytes (bad.long_word _ _ class long) = ([], inr (omega arith, front_is_one is_word_byte c.letter 64 (omega arith) one_word b bytes class long))
bad_completes b m bytes (bad.long_number _ _ class long) = ([], inr (omega arith, front_is_one is_digit c.digit 18 (omega arith) one_number b bytes class long))
bad_completes b m bytes (bad.open_string _ _ e) =
    let w = string_bad 256 1 m bytes e in
    let k = w.0 in
    let next : m ≡ suc k = w.1 ∙ omega arith in
    let size : 1 + k + length w.2.more ≡ length (34 ∷ take k bytes ++ w.2.more) = omega (arith, length-append (take k bytes) w.2.more, length-take-le k bytes w.2.within) in
    let step = step_by_class 34 (take k bytes ++ w.2.more) c.quote refl ∙ (w.2.completes ∙ ap (S.Token K.Str) size) in
    (w.2.more, inr (omega (arith, next), subst (λ (n : ℕ). IsOne (take n (34 ∷ bytes) ++ w.2.more)) (sym next) (inl (K.Str, step))))
bad_completes b m bytes (bad.half_comment _ none) = (47 ∷ [], inr (omega arith, inr refl))
bad_completes b m bytes (bad.half_sign _ none) = (61 ∷ [], inr (omega arith, inl (K.Sign G.NotEqual, refl)))
bad_completes b m bytes (bad.no_token _ _ class none h) = ([], inl (refl, refl))
