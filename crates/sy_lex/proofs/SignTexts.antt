-- The sign that is taken is the longest one at the front. Where a function has an equation for the first sign and one for
-- any sign, the second is checked at each of the other signs.
use Rattle.std.proofs.Common.{◌≡◌, ℕ, zero, suc, ◌<◌, ◌≤◌, ◌&&◌, ◌==◌, false, List, [], ◌∷◌, length, take, Some, None, Option, IfSome, if◌then◌else◌, refl, sym, ap, ◌∙◌, arith, inl, inr, ◌⊎◌, rules}
use Rattle.std.proofs.lemmas.Bool.{cond_both, and_parts, eqb-true}
use Rattle.std.proofs.lemmas.List.{length-take-le}
use Rattle.std.proofs.lemmas.Option.{MatchOption-at_some}
use Rattle.sy_lex.specs.declared.sign.Sign.{Sign}
use Rattle.sy_lex.specs.declared.sign.Sign.TheVariants as S
use Rattle.sy_lex.specs.Bytes.{is_letter, is_digit, is_blank, is_quote}
use Rattle.sy_lex.specs.Signs.{sign_text, sign_of_one, sign_of_two, first_of, sign_at}

-- ---- each sign

taken_at_its_text : (sign : Sign) → sign_at (sign_text sign) ≡ Some sign
taken_at_its_text S.Colon = refl
taken_at_its_text sign = refl

pub not_empty : (sign : Sign) → 0 < length (sign_text sign)
not_empty S.Colon = omega arith
not_empty sign = omega arith

pub at_most_two : (sign : Sign) → length (sign_text sign) ≤ 2
at_most_two S.Colon = omega arith
at_most_two sign = omega arith

-- ---- what stands at the front

one_or : (a n : ℕ) (sign : Sign) (rest : Option Sign) → sign_text sign ≡ n ∷ [] → IfSome rest (λ s. sign_text s ≡ a ∷ [])
    → IfSome (if a == n then Some sign else rest) (λ s. sign_text s ≡ a ∷ [])
one_or a n sign rest text others =
    cond_both (a == n) (Some sign) rest (λ o. IfSome o (λ s. sign_text s ≡ a ∷ []))
    (λ same. text ∙ ap (λ b. b ∷ []) (sym (eqb-true a n same))) (λ _. others)

two_or : (a b m n : ℕ) (sign : Sign) (rest : Option Sign) → sign_text sign ≡ m ∷ n ∷ []
    → IfSome rest (λ s. sign_text s ≡ a ∷ b ∷ [])
    → IfSome (if (a == m) && (b == n) then Some sign else rest) (λ s. sign_text s ≡ a ∷ b ∷ [])
two_or a b m n sign rest text others =
    cond_both ((a == m) && (b == n)) (Some sign) rest (λ o. IfSome o (λ s. sign_text s ≡ a ∷ b ∷ []))
    (λ same.
    let both = and_parts (a == m) (b == n) same in
    rw (eqb-true a m both.0, eqb-true b n both.1) text)
    (λ _. others)

one_is : (a : ℕ) → IfSome (sign_of_one a) (λ sign. sign_text sign ≡ a ∷ [])
one_is a = search (rules, one_or) depth 20

two_is : (a b : ℕ) → IfSome (sign_of_two a b) (λ sign. sign_text sign ≡ a ∷ b ∷ [])
two_is a b = search (rules, two_or) depth 20

-- the bytes begin with a text, which is not empty
pub record IsFront (text bytes : List ℕ) : Type 0 where
  pub some : 0 < length text
  pub within : length text ≤ length bytes
  pub front : take (length text) bytes ≡ text

one_front : (text : List ℕ) (a : ℕ) (rest : List ℕ) → text ≡ a ∷ [] → IsFront text (a ∷ rest)
one_front text a rest is = rw is (record { some = omega arith; within = omega arith; front = refl })

two_front : (text : List ℕ) (a b : ℕ) (rest : List ℕ) → text ≡ a ∷ b ∷ [] → IsFront text (a ∷ b ∷ rest)
two_front text a b rest is = rw is (record { some = omega arith; within = omega arith; front = refl })

first_or_other : (first other : Option Sign) (sign : Sign) → first_of first other ≡ Some sign
    → (first ≡ Some sign) ⊎ ((first ≡ None) × (other ≡ Some sign))
first_or_other (Some found) other sign is = inl is
first_or_other None other sign is = inr (refl, is)

is_one : (a : ℕ) (sign : Sign) → sign_of_one a ≡ Some sign → sign_text sign ≡ a ∷ []
is_one a sign found = MatchOption-at_some (Unit {0}) (λ s. sign_text s ≡ a ∷ []) sign found (one_is a)

is_two : (a b : ℕ) (sign : Sign) → sign_of_two a b ≡ Some sign → sign_text sign ≡ a ∷ b ∷ []
is_two a b sign found = MatchOption-at_some (Unit {0}) (λ s. sign_text s ≡ a ∷ b ∷ []) sign found (two_is a b)

pub sign_found : (bytes : List ℕ) (sign : Sign) → sign_at bytes ≡ Some sign → IsFront (sign_text sign) bytes
sign_found [] sign found = absurd cc
sign_found (a ∷ []) sign found = one_front _ a [] (is_one a sign found)
sign_found (a ∷ b ∷ rest) sign found =
    elim (first_or_other (sign_of_two a b) (sign_of_one a) sign found) [
      | inl two ↦ two_front _ a b rest (is_two a b sign two)
      | inr one ↦ one_front _ a (b ∷ rest) (is_one a sign one.1)
    ]

-- what is taken at the whole text of a sign is that sign
taken_whole : (bytes : List ℕ) (sign : Sign) → sign_text sign ≡ bytes → sign_at bytes ≡ Some sign
taken_whole bytes sign is = rw (← is) (taken_at_its_text sign)

-- a sign of two bytes at the front is taken
two_taken : (sign other : Sign) (a b : ℕ) (rest : List ℕ) → sign_text other ≡ a ∷ b ∷ []
    → sign_at (a ∷ b ∷ rest) ≡ Some sign → other ≡ sign
two_taken sign other a b rest is found =
    let same : Some other ≡ Some sign = sym (taken_whole (a ∷ b ∷ []) other is) ∙ found in
    cc

pub text_size : (sign : Sign) (n : ℕ) (bytes : List ℕ) → n ≤ length bytes → sign_text sign ≡ take n bytes
    → length (sign_text sign) ≡ n
text_size sign n bytes within is = ap length is ∙ length-take-le n bytes within

pub sign_longest : (bytes : List ℕ) (sign : Sign) → sign_at bytes ≡ Some sign
    → (other : Sign) (m : ℕ) → length (sign_text sign) < m → m ≤ length bytes → sign_text other ≡ take m bytes → ⊥
sign_longest bytes sign found other zero more within is = absurd (omega arith)
sign_longest bytes sign found other (suc zero) more within is = absurd (omega (arith, not_empty sign))
sign_longest [] sign found other (suc (suc m)) more within is = absurd (omega arith)
sign_longest (a ∷ []) sign found other (suc (suc m)) more within is = absurd (omega arith)
sign_longest (a ∷ b ∷ rest) sign found other (suc (suc zero)) more within is =
    let same = two_taken sign other a b rest is found in
    absurd (omega (arith, ap (λ s. length (sign_text s)) same, ap length is))
sign_longest (a ∷ b ∷ rest) sign found other (suc (suc (suc m))) more within is =
    absurd (omega (arith, at_most_two other, text_size other _ (a ∷ b ∷ rest) within is))

one_taken : (two one : Option Sign) (sign : Sign) → one ≡ Some sign → ((other : Sign) → two ≡ Some other → ⊥)
    → first_of two one ≡ Some sign
one_taken None one sign found none = found
one_taken (Some other) one sign found none = absurd (none other refl)

pub sign_complete : (sign : Sign) (n : ℕ) (bytes : List ℕ) → n ≤ length bytes → sign_text sign ≡ take n bytes
    → ((other : Sign) (m : ℕ) → n < m → m ≤ length bytes → sign_text other ≡ take m bytes → ⊥)
    → sign_at bytes ≡ Some sign
sign_complete sign zero bytes within is longest =
    absurd (omega (arith, not_empty sign, text_size sign 0 bytes within is))
sign_complete sign (suc n) [] within is longest = absurd (omega arith)
sign_complete sign (suc zero) (a ∷ []) within is longest = taken_whole (a ∷ []) sign is
sign_complete sign (suc (suc n)) (a ∷ []) within is longest = absurd (omega arith)
sign_complete sign (suc zero) (a ∷ b ∷ rest) within is longest =
    one_taken (sign_of_two a b) (sign_of_one a) sign (taken_whole (a ∷ []) sign is)
    (λ other two. longest other 2 (omega arith) (omega arith) (is_two a b other two))
sign_complete sign (suc (suc zero)) (a ∷ b ∷ rest) within is longest = taken_whole (a ∷ b ∷ []) sign is
sign_complete sign (suc (suc (suc n))) (a ∷ b ∷ rest) within is longest =
    absurd (omega (arith, at_most_two sign, text_size sign _ (a ∷ b ∷ rest) within is))

-- ---- how a sign begins

-- no word, number, date, text between quotes, comment or blank begins with this byte
pub record BeginsSign (b : ℕ) : Type 0 where
  pub letter : is_letter b ≡ false
  pub digit : is_digit b ≡ false
  pub blank : is_blank b ≡ false
  pub quote : is_quote b ≡ false
  pub slash : (b == 47) ≡ false

abbrev First : List ℕ → Type 0
First [] = Unit {0}
First (b ∷ bytes) = BeginsSign b

begins : (sign : Sign) → First (sign_text sign)
begins S.Colon = record { letter = refl; digit = refl; blank = refl; quote = refl; slash = refl }
begins sign = record { letter = refl; digit = refl; blank = refl; quote = refl; slash = refl }

pub sign_first : (sign : Sign) (b : ℕ) (bytes : List ℕ) → sign_text sign ≡ b ∷ bytes → BeginsSign b
sign_first sign b bytes is = rw is at (begins sign)
