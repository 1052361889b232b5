-- Tests over the numbered positions that pass another test.
use Rattle.std.proofs.Common.{◌≡◌, ℕ, Bool, true, false, not, ◌&&◌, ◌||◌, List, [], ◌∷◌, cond, refl, sym, ◌∙◌, ap}
use Rattle.std.specs.List.{list_any, list_all, filter, enumerate_from}

-- some item that is kept passes a test
pub any-kept : {X : Type 0} (kept test : X → Bool) (xs : List X) → list_any test (filter kept xs) ≡ list_any (λ x. kept x && test x) xs
any-kept kept test [] = refl
any-kept kept test (x ∷ xs) = here (kept x) (any-kept kept test xs)
  where
    here : (b : Bool) → list_any test (filter kept xs) ≡ list_any (λ x. kept x && test x) xs → list_any test (cond b (x ∷ filter kept xs) (filter kept xs)) ≡ ((b && test x) || list_any (λ x. kept x && test x) xs)
    here true later = ap (λ b. test x || b) later
    here false later = later

-- each item that is kept passes a test
pub all-kept : {X : Type 0} (kept test : X → Bool) (xs : List X) → list_all test (filter kept xs) ≡ list_all (λ x. not (kept x) || test x) xs
all-kept kept test [] = refl
all-kept kept test (x ∷ xs) = here (kept x) (all-kept kept test xs)
  where
    here : (b : Bool) → list_all test (filter kept xs) ≡ list_all (λ x. not (kept x) || test x) xs → list_all test (cond b (x ∷ filter kept xs) (filter kept xs)) ≡ ((not b || test x) && list_all (λ x. not (kept x) || test x) xs)
    here true later = ap (λ b. test x && b) later
    here false later = later

-- the same, over the numbered items of a list
pub any-numbered : {X : Type 0} (kept test : ℕ × X → Bool) (items xs : List X) → items ≡ xs → list_any (λ n. kept n && test n) (enumerate_from 0 items) ≡ list_any test (filter kept (enumerate_from 0 xs))
any-numbered kept test items xs e =
    ap (λ ys. list_any (λ n. kept n && test n) (enumerate_from 0 ys)) e ∙ sym (any-kept kept test (enumerate_from 0 xs))

pub all-numbered : {X : Type 0} (kept test : ℕ × X → Bool) (items xs : List X) → items ≡ xs → list_all (λ n. not (kept n) || test n) (enumerate_from 0 items) ≡ list_all test (filter kept (enumerate_from 0 xs))
all-numbered kept test items xs e =
    ap (λ ys. list_all (λ n. not (kept n) || test n) (enumerate_from 0 ys)) e ∙ sym (all-kept kept test (enumerate_from 0 xs))
