-- Lemmas on the lines of a text.
use Rattle.std.proofs.Common.{◌≡◌, ℕ, ◌<◌, ◌+◌, List, [], ◌∷◌, ◌++◌, length, take, drop, ◌≤◌, get_or, true, false, cond, eqb, refl, ap, ◌∙◌, sym, ◌≢◌, arith}
use Rattle.std.proofs.lemmas.List.{take_more, take-append-drop, take-take}
use Rattle.std.proofs.lemmas.Bool.Decides.{nat_tests}
use Rattle.std.specs.List.{onto_first}
use Rattle.sy_outside.specs.Lines.{has_newline, lines_of}

pub has_newline-append : (xs ys : List ℕ) → has_newline xs ≡ false → has_newline (xs ++ ys) ≡ has_newline ys
has_newline-append [] ys p = refl
has_newline-append (x ∷ xs) ys p =
    elim (eqb x 10) as (λ b. cond b true (has_newline xs) ≡ false → cond b true (has_newline (xs ++ ys)) ≡ has_newline ys) [
      | true ↦ λ q. absurd (cc)
      | false ↦ λ q. has_newline-append xs ys q
    ] p

pub has_newline-one : (x : ℕ) → x ≢ 10 → has_newline (x ∷ []) ≡ false
has_newline-one x p = grind (arith, nat_tests)

pub has_newline-take_more : (xs : List ℕ) (n : ℕ) → n < length xs → has_newline (take n xs) ≡ false → get_or xs n 0 ≢ 10 → has_newline (take (n + 1) xs) ≡ false
has_newline-take_more xs n h p q = ap has_newline (take_more xs n 0 h) ∙ has_newline-append (take n xs) _ p ∙ has_newline-one _ q

-- the first line and the rest
pub lines_of-line : (line rest : List ℕ) → has_newline line ≡ false → lines_of (line ++ 10 ∷ rest) ≡ line ∷ lines_of rest
lines_of-line [] rest p = refl
lines_of-line (x ∷ xs) rest p =
    elim (eqb x 10) as (λ b. cond b true (has_newline xs) ≡ false → cond b ([] ∷ lines_of (xs ++ 10 ∷ rest)) (onto_first x (lines_of (xs ++ 10 ∷ rest))) ≡ (x ∷ xs) ∷ lines_of rest) [
      | true ↦ λ q. absurd (cc)
      | false ↦ λ q. ap (onto_first x) (lines_of-line xs rest q)
    ] p

-- the last line, where it has no newline
pub lines_of-last : (x : ℕ) (xs : List ℕ) → has_newline (x ∷ xs) ≡ false → lines_of (x ∷ xs) ≡ (x ∷ xs) ∷ []
lines_of-last x [] p = elim (eqb x 10) as (λ b. cond b true false ≡ false → cond b ([] ∷ []) ((x ∷ []) ∷ []) ≡ (x ∷ []) ∷ []) [ true ↦ λ q. absurd (cc) | false ↦ λ q. refl ] p
lines_of-last x (y ∷ ys) p =
    elim (eqb x 10) as (λ b. cond b true (has_newline (y ∷ ys)) ≡ false → cond b ([] ∷ lines_of (y ∷ ys)) (onto_first x (lines_of (y ∷ ys))) ≡ (x ∷ y ∷ ys) ∷ []) [
      | true ↦ λ q. absurd (cc)
      | false ↦ λ q. ap (onto_first x) (lines_of-last y ys q)
    ] p

pub has_newline-front : (xs ys : List ℕ) → has_newline (xs ++ ys) ≡ false → has_newline xs ≡ false
has_newline-front [] ys p = refl
has_newline-front (x ∷ xs) ys p =
    elim (eqb x 10) as (λ b. cond b true (has_newline (xs ++ ys)) ≡ false → cond b true (has_newline xs) ≡ false) [
      | true ↦ λ q. absurd (cc)
      | false ↦ λ q. has_newline-front xs ys q
    ] p

pub has_newline-take : (n : ℕ) (xs : List ℕ) → has_newline xs ≡ false → has_newline (take n xs) ≡ false
has_newline-take n xs p = has_newline-front (take n xs) (drop n xs) (ap has_newline (take-append-drop n xs) ∙ p)

pub has_newline-shorter : (n m : ℕ) (xs : List ℕ) → n ≤ m → has_newline (take m xs) ≡ false → has_newline (take n xs) ≡ false
has_newline-shorter n m xs h p = ap has_newline (sym (take-take n m xs h)) ∙ has_newline-take n (take m xs) p
