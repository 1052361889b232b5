-- How often numbers stand in lists, and how many numbers of a list another one lacks.
use Rattle.std.proofs.Common.{◌≡◌, ℕ, ◌<◌, ◌≤◌, ◌+◌, ◌==◌, Bool, true, false, not, ◌||◌, ◌&&◌, List, [], ◌∷◌, ◌++◌, length, cond, refl, sym, ◌∙◌, ap, subst, arith}
use Rattle.std.specs.List.{list_all, count_by}
use Rattle.std.proofs.lemmas.Bool.{ne_eqb}
use Rattle.std.proofs.lemmas.Bool.Decides.{Decides-eqb, nat_tests}
use Rattle.std.proofs.lemmas.List.Folds.{list_any-append}
use Rattle.std.proofs.lemmas.List.Sums.{sum_by-cons, sum_by_push}
use Rattle.sy_core.specs.Orders.{is_listed}
use Rattle.sy_strata.specs.Machine.Counting.{times}

-- how many numbers of a list aren't listed
abbrev pub lacking : List ℕ → List ℕ → ℕ
lacking listed list = count_by (λ number. not (is_listed listed number)) list

pub or_false : (b : Bool) → (b || false) ≡ b
or_false true = refl
or_false false = refl

pub listed_and_one : (listed : List ℕ) (x k : ℕ) → is_listed (listed ++ x ∷ []) k ≡ (is_listed listed k || (x == k))
listed_and_one listed x k = list_any-append (λ y. y == k) listed (x ∷ []) ∙ ap (λ b. is_listed listed k || b) (or_false (x == k))

-- one more number in the list
pub times_and_one : (number : ℕ) (list : List ℕ) (x : ℕ) → times number (list ++ x ∷ []) ≡ times number list + cond (x == number) 1 0
times_and_one number list x = sum_by_push (λ other. cond (other == number) 1 0) list x

pub same_swapped : (x y : ℕ) → (x == y) ≡ (y == x)
same_swapped x y = grind (arith, nat_tests)

one_lacks : (b s : Bool) → (s ≡ true → b ≡ false) → cond (not (b || s)) 1 0 + cond s 1 0 ≡ cond (not b) 1 0
one_lacks true true f = let e = f refl in cc
one_lacks false true f = refl
one_lacks true false f = refl
one_lacks false false f = refl

-- once a number is listed too, the list lacks it no more
pub lacking_and_one : (listed : List ℕ) (x : ℕ) → is_listed listed x ≡ false → (list : List ℕ) → lacking (listed ++ x ∷ []) list + times x list ≡ lacking listed list
lacking_and_one listed x out [] = refl
lacking_and_one listed x out (k ∷ ks) =
    let a = sum_by-cons (λ number. cond (not (is_listed (listed ++ x ∷ []) number)) 1 0) k ks in
    let b = sum_by-cons (λ other. cond (other == x) 1 0) k ks in
    let c = sum_by-cons (λ number. cond (not (is_listed listed number)) 1 0) k ks in
    let here : cond (not (is_listed (listed ++ x ∷ []) k)) 1 0 + cond (k == x) 1 0 ≡ cond (not (is_listed listed k)) 1 0 =
    ap (λ s. cond (not s) 1 0 + cond (k == x) 1 0) (listed_and_one listed x k) ∙ (ap (λ s. cond (not (is_listed listed k || s)) 1 0 + cond (k == x) 1 0) (same_swapped x k) ∙ one_lacks (is_listed listed k) (k == x) (λ same. subst (λ y. is_listed listed y ≡ false) (sym ((Decides-eqb k x).0 same)) out)) in
    let later = lacking_and_one listed x out ks in
    omega (arith, a, b, c, here, later)

none_more : (b : Bool) (n : ℕ) → (b && (n == 0)) ≡ ((cond (not b) 1 0 + n) == 0)
none_more true n = let e : 0 + n ≡ n = omega arith in ap (λ m. m == 0) (sym e)
none_more false n = sym (ne_eqb (1 + n) 0 (λ e. absurd (omega (arith, e))))

-- all are listed where the list lacks none
pub all_listed : (listed list : List ℕ) → list_all (is_listed listed) list ≡ (lacking listed list == 0)
all_listed listed [] = refl
all_listed listed (k ∷ ks) =
    ap (λ b. is_listed listed k && b) (all_listed listed ks) ∙ (none_more (is_listed listed k) (lacking listed ks) ∙ ap (λ n. n == 0) (sym (sum_by-cons (λ number. cond (not (is_listed listed number)) 1 0) k ks)))

-- nothing is listed in the empty list
pub all_lacking : (list : List ℕ) → lacking [] list ≡ length list
all_lacking [] = refl
all_lacking (k ∷ ks) =
    let a = sum_by-cons (λ number. cond (not (is_listed [] number)) 1 0) k ks in
    let later = all_lacking ks in
    omega (arith, a, later)

-- a number stands in the list where it stands there once or more
pub stands_there : (number : ℕ) (list : List ℕ) → 0 < times number list → is_listed list number ≡ true
stands_there number [] some = absurd (omega (arith, some))
stands_there number (k ∷ ks) some = at (k == number) refl (stands_there number ks)
  where
    at : (b : Bool) → (k == number) ≡ b → (0 < times number ks → is_listed ks number ≡ true) → (b || is_listed ks number) ≡ true
    at true same later = refl
    at false other later =
        let a : times number (k ∷ ks) ≡ cond (k == number) 1 0 + times number ks = sum_by-cons (λ x. cond (x == number) 1 0) k ks in
        let b = ap (λ (s : Bool). cond {A = ℕ} s 1 0) other in
        later (omega (arith, some, a, b))

-- the numbers of a list of none
pub none_there : (number : ℕ) (list : List ℕ) → length list ≡ 0 → times number list ≡ 0
none_there number [] e = refl
none_there number (k ∷ ks) e = absurd (omega (arith, e))

-- a number stands in the list no more often than the list is long
pub times_at_most : (number : ℕ) (list : List ℕ) → times number list ≤ length list
times_at_most number [] = omega arith
times_at_most number (k ∷ ks) =
    let a : times number (k ∷ ks) ≡ cond (k == number) 1 0 + times number ks = sum_by-cons (λ x. cond (x == number) 1 0) k ks in
    let b = low (k == number) in
    let later = times_at_most number ks in
    omega (arith, a, b, later)
  where
    low : (b : Bool) → cond b 1 0 ≤ 1
    low true = omega arith
    low false = omega arith
