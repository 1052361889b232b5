-- A token that was taken is taken too where other bytes come behind the front in which it ends.
use Rattle.std.proofs.Common.{◌≡◌, ◌⊎◌, inl, inr, ℕ, ◌+◌, ◌<◌, ◌≤◌, Bool, true, ◌==◌, nat_le, Option, Some, None, List, [], ◌∷◌, ◌++◌, length, get_or, take, refl, sym, ap, subst, ◌∙◌, arith}
use Rattle.std.specs.Prelude.{IsSome}
use Rattle.std.specs.List.{prefix_len}
use Rattle.std.proofs.lemmas.Bool.{cases_Bool, cases_lt}
use Rattle.std.proofs.lemmas.List.{get_or_append_left, get_or-take, length-append, take-append-le}
use Rattle.std.proofs.lemmas.List.Folds.{prefix_len-append}
use Rattle.sy_base.specs.Dates.{written_date}
use Rattle.sy_lex.specs.declared.token.TokenKind.{TokenKind}
use Rattle.sy_lex.specs.declared.token.TokenKind.TheVariants as K
use Rattle.sy_lex.specs.declared.sign.Sign.{Sign}
use Rattle.sy_lex.specs.declared.step.Step.TheVariants as S
use Rattle.sy_lex.specs.Bytes.{is_comment_byte, is_letter, is_digit, is_word_byte}
use Rattle.sy_lex.specs.Signs.{sign_at}
use Rattle.sy_lex.specs.Forms.{HasForm, IsNumber}
use Rattle.sy_lex.specs.Tokens.{BeginsDate, IsFirst, comment_length}
use Rattle.sy_lex.specs.Machine.Cutting.{date_length, date_or_number, sign_or_fault, slash_step, step_at, word_step}
use Rattle.sy_lex.proofs.Begins as b
use Rattle.sy_lex.proofs.Begins.{Class, class_of, class_of_kind, class_step, step_by_class, digit_class, digit_form, letter_class, letter_form, other_form, quote_form}
use Rattle.sy_lex.proofs.Dates.{date_within}
use Rattle.sy_lex.proofs.Firsts.{date_or_digits, each_digit, first_class, text_class}
use Rattle.sy_lex.proofs.SignTexts.{at_most_two, text_size}
use Rattle.sy_lex.proofs.Stands.{front_in_run}
use Rattle.sy_lex.proofs.Strings.{Reads, reads, string_exact}

-- no date begins at the front and ends in what is behind it
abbrev pub NoDate : List ℕ → List ℕ → Type 0
NoDate front behind = (m : ℕ) → length front < m → m ≤ length (front ++ behind) → IsSome (written_date (take m (front ++ behind))) → ⊥

-- a number is no date's beginning
number_alone : (kind : TokenKind) (n : ℕ) (bytes : List ℕ) → IsFirst kind n bytes → IsNumber (take n bytes) → BeginsDate bytes → ⊥
number_alone kind n bytes f number begun =
    let date = date_within bytes begun in
    elim (cases_lt n date.0) [
      | inl lt ↦ f.longest K.Date date.0 lt date.1 date.2
      | inr le ↦ date_or_digits bytes date.0 n f.within date.2 date.1 le (each_digit n bytes f.within number)
    ]

-- bytes with a front, and what may come behind it in place of the rest
module _ (front rest other : List ℕ) where
  same_front : (m : ℕ) → m ≤ length front → take m (front ++ other) ≡ take m (front ++ rest)
  same_front m within = take-append-le m front other within ∙ sym (take-append-le m front rest within)

  same_byte : (j : ℕ) → j < length front → get_or (front ++ other) j 0 ≡ get_or (front ++ rest) j 0
  same_byte j within = get_or_append_left front other 0 j within ∙ sym (get_or_append_left front rest 0 j within)

  -- a run of bytes ends where it did
  pub same_run : (test : ℕ → Bool) (k : ℕ) → k ≡ prefix_len test (front ++ rest) → k ≤ length front → (other ≡ []) ⊎ (k < length front)
      → k ≡ prefix_len test (front ++ other)
  same_run test k is within ends = elim (cases_Bool (prefix_len test front == length front)) [
    | inl all ↦
        let one : prefix_len test (front ++ rest) ≡ length front + prefix_len test rest = prefix_len-append test front rest ∙ rw all refl in
        let two : prefix_len test (front ++ other) ≡ length front + prefix_len test other = prefix_len-append test front other ∙ rw all refl in
        elim ends [
          | inl none ↦
              let nothing : prefix_len test other ≡ 0 = ap (prefix_len test) none in
              omega (arith, is, one, two, nothing)
          | inr less ↦ absurd (omega (arith, is, one))
        ]
    | inr stops ↦
        let one : prefix_len test (front ++ rest) ≡ prefix_len test front = prefix_len-append test front rest ∙ rw stops refl in
        let two : prefix_len test (front ++ other) ≡ prefix_len test front = prefix_len-append test front other ∙ rw stops refl in
        is ∙ one ∙ sym two
  ]

  module _ (kind : TokenKind) (k : ℕ) (f : IsFirst kind k (front ++ rest)) (within : k ≤ length front) (behind : (other ≡ []) ⊎ ((k < length front) × NoDate front other)) where
    ends : (other ≡ []) ⊎ (k < length front)
    ends = elim behind [ inl none ↦ inl none | inr more ↦ inr more.0 ]

    some : 0 < k
    some = (first_class kind k (front ++ rest) f.form).0

    class : class_of (get_or (front ++ rest) 0 0) ≡ class_of_kind kind
    class = (first_class kind k (front ++ rest) f.form).1

    class_too : class_of (get_or (front ++ other) 0 0) ≡ class_of_kind kind
    class_too = let s = some in ap class_of (same_byte 0 (omega arith)) ∙ class

    form : HasForm kind (take k (front ++ other))
    form = subst (HasForm kind) (sym (same_front k within)) f.form

    word_ends : is_letter (get_or (front ++ other) 0 0) ≡ true → k ≡ prefix_len is_word_byte (front ++ other)
    word_ends letter = let s = some in same_run is_word_byte k (f.word (ap is_letter (sym (same_byte 0 (omega arith))) ∙ letter)) within ends

    digits_end : IsNumber (take k (front ++ rest)) → k ≡ prefix_len is_digit (front ++ other)
    digits_end number =
        let s = some in
        let digit = each_digit k (front ++ rest) f.within number 0 some in
        same_run is_digit k (f.number digit (number_alone kind k (front ++ rest) f number)) within ends

    number_ends : is_digit (get_or (front ++ other) 0 0) ≡ true → (BeginsDate (front ++ other) → ⊥) → k ≡ prefix_len is_digit (front ++ other)
    number_ends digit none =
        let s = some in
        let class' = text_class k (front ++ rest) some ∙ (ap class_of (sym (same_byte 0 (omega arith))) ∙ digit_class (get_or (front ++ other) 0 0) digit) in
        elim (digit_form kind (take k (front ++ rest)) class' f.form) [
          | inl number ↦ digits_end number
          | inr date ↦ absurd (none (k, subst (λ (text : List ℕ). IsSome (written_date text)) (sym (same_front k within)) date))
        ]

    -- nothing that ends in what comes behind is longer
    module _ (less : k < length front) (none : NoDate front other) (longer : TokenKind) (m : ℕ) (past : length front < m) (le : m ≤ length (front ++ other)) (g : HasForm longer (take m (front ++ other))) where
      class_of_longer : class_of (get_or (take m (front ++ other)) 0 0) ≡ class_of_kind kind
      class_of_longer = text_class m (front ++ other) (omega arith) ∙ class_too

      first_is : get_or (take m (front ++ other)) 0 0 ≡ get_or (front ++ other) 0 0
      first_is = get_or-take m (front ++ other) 0 0 (omega arith)

      no_word : class_of_kind kind ≡ b.letter → ⊥
      no_word is =
          let word = letter_form longer (take m (front ++ other)) (class_of_longer ∙ is) g in
          omega (arith, word_ends (ap is_letter (sym first_is) ∙ word.letter), front_in_run is_word_byte (front ++ other) m le word.each)

      -- what begins as a number or a date
      no_digits : class_of_kind kind ≡ b.digit → ⊥
      no_digits is = elim (digit_form longer (take m (front ++ other)) (class_of_longer ∙ is) g) [
        | inl number ↦ elim (digit_form kind (take k (front ++ rest)) (text_class k (front ++ rest) some ∙ (class ∙ is)) f.form) [
          | inl short ↦ omega (arith, digits_end short, front_in_run is_digit (front ++ other) m le number.each)
          | inr date ↦
              let there = subst (λ (text : List ℕ). IsSome (written_date text)) (sym (same_front k within)) date in
              date_or_digits (front ++ other) k m le there (omega arith) (omega arith) (each_digit m (front ++ other) le number)
        ]
        | inr date ↦ none m past le date
      ]

      no_longer : (kind' : TokenKind) → kind ≡ kind' → ⊥
      no_longer K.Word is = no_word (ap class_of_kind is)
      no_longer (K.Reserved keyword) is = no_word (ap class_of_kind is)
      no_longer K.Number is = no_digits (ap class_of_kind is)
      no_longer K.Date is = no_digits (ap class_of_kind is)
      no_longer K.Str is =
          let long = string_exact (front ++ other) m le (quote_form longer (take m (front ++ other)) (class_of_longer ∙ ap class_of_kind is) g) in
          let here = subst (λ (kind : TokenKind). HasForm kind (take k (front ++ other))) is form in
          let short = string_exact (front ++ other) k (omega arith) here in
          let same : k ≡ m = cc in
          omega arith
      no_longer (K.Sign sign) is =
          let long = other_form longer (take m (front ++ other)) (class_of_longer ∙ ap class_of_kind is) g in
          let s = some in
          omega (arith, at_most_two long.0, text_size long.0 m (front ++ other) le long.1)

    longest : (longer : TokenKind) (m : ℕ) → k < m → m ≤ length (front ++ other) → HasForm longer (take m (front ++ other)) → ⊥
    longest longer m lt le g = elim (cases_lt (length front) m) [
      | inl past ↦ elim behind [
        | inl none ↦ omega (arith, length-append front other, ap length none)
        | inr more ↦ no_longer more.0 more.1 longer m past le g kind refl
      ]
      | inr inside ↦ f.longest longer m lt (omega (arith, length-append front rest)) (subst (HasForm longer) (same_front m inside) g)
    ]

    pub token_stays : IsFirst kind k (front ++ other)
    token_stays = record {
      within = omega (arith, length-append front other);
      form = form;
      longest = longest;
      word = word_ends;
      number = number_ends;
    }

-- ---- a blank or a comment

word_token : (n : ℕ) (bytes : List ℕ) → word_step bytes ≡ S.Skip n → ⊥
word_token n bytes e = elim (cases_Bool (nat_le (prefix_len is_word_byte bytes) 64)) [
  | inl fits ↦ let e' = rw fits at e in absurd cc
  | inr long ↦ let e' = rw long at e in absurd cc
]

number_token : (n : ℕ) (bytes : List ℕ) (found : Option ℕ) → date_or_number found bytes ≡ S.Skip n → ⊥
number_token n bytes (Some m) e = absurd cc
number_token n bytes None e = elim (cases_Bool (nat_le (prefix_len is_digit bytes) 18)) [
  | inl fits ↦ let e' = rw fits at e in absurd cc
  | inr long ↦ let e' = rw long at e in absurd cc
]

sign_token : (n a : ℕ) (bytes : List ℕ) (found : Option Sign) → sign_or_fault found (a ∷ bytes) ≡ S.Skip n → ⊥
sign_token n a bytes (Some sign) e = absurd cc
sign_token n a bytes None e = elim (cases_Bool (a == 33)) [
  | inl h ↦ let e' = rw h at e in absurd cc
  | inr h ↦ let e' = rw h at e in absurd cc
]

skip_is : (m n : ℕ) → S.Skip m ≡ S.Skip n → m ≡ n
skip_is m n e = cc

comment_stays : (k : ℕ) (front rest other : List ℕ) → slash_step (front ++ rest) ≡ S.Skip k → k ≤ length front + 1 → (other ≡ []) ⊎ (k < length front + 1) → slash_step (front ++ other) ≡ S.Skip k
comment_stays k [] [] other e within tail = absurd cc
comment_stays k [] (x ∷ rest) other e within tail = elim (cases_Bool (x == 47)) [
  | inl h ↦ let size = skip_is (2 + comment_length rest) k (rw h at e) in absurd (omega arith)
  | inr h ↦ let e' = rw h at e in absurd cc
]
comment_stays k (x ∷ front) rest other e within tail = elim (cases_Bool (x == 47)) [
  | inl h ↦
      let size = skip_is (2 + comment_length (front ++ rest)) k (rw h at e) in
      let ends' : (other ≡ []) ⊎ (comment_length (front ++ rest) < length front) = elim tail [ inl none ↦ inl none | inr less ↦ inr (omega arith) ] in
      let same = same_run front rest other is_comment_byte (comment_length (front ++ rest)) refl (omega arith) ends' in
      rw h (ap (λ (n : ℕ). S.Skip (2 + n)) (sym same) ∙ ap S.Skip size)
  | inr h ↦ let e' = rw h at e in absurd cc
]

by_class : (class : Class) (a k : ℕ) (front rest other : List ℕ) → class_of a ≡ class → class_step class a (front ++ rest) ≡ S.Skip k → k ≤ length front + 1 → (other ≡ []) ⊎ (k < length front + 1)
    → class_step class a (front ++ other) ≡ S.Skip k
by_class b.quote a k front rest other is e within tail = let none = subst (Reads 256 1 (front ++ rest)) e (reads 256 1 (front ++ rest)) in absurd none
by_class b.slash a k front rest other is e within tail = comment_stays k front rest other e within tail
by_class b.blank a k front rest other is e within tail = e
by_class b.letter a k front rest other is e within tail = absurd (word_token k (a ∷ front ++ rest) e)
by_class b.digit a k front rest other is e within tail = absurd (number_token k (a ∷ front ++ rest) (date_length (a ∷ front ++ rest)) e)
by_class b.other a k front rest other is e within tail = absurd (sign_token k a (front ++ rest) (sign_at (a ∷ front ++ rest)) e)

pub skip_stays : (a k : ℕ) (front rest other : List ℕ) → step_at (a ∷ front ++ rest) ≡ S.Skip k → k ≤ length (a ∷ front) → (other ≡ []) ⊎ (k < length (a ∷ front))
    → step_at (a ∷ front ++ other) ≡ S.Skip k
skip_stays a k front rest other e within tail =
    let here = sym (step_by_class a (front ++ rest) (class_of a) refl) ∙ e in
    let behind : (other ≡ []) ⊎ (k < length front + 1) = elim tail [ inl none ↦ inl none | inr less ↦ inr (omega arith) ] in
    step_by_class a (front ++ other) (class_of a) refl ∙ by_class (class_of a) a k front rest other refl here (omega arith) behind
