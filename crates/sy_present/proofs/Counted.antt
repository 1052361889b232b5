-- How many pass a test, and whether any does.
use Rattle.std.proofs.Common.{◌≡◌, ℕ, ◌+◌, ◌-◌, ◌==◌, Bool, true, false, not, ◌&&◌, ◌||◌, cond, List, [], ◌∷◌, ◌<◌, map, take, length, get_or, refl, sym, ap, ◌∙◌, arith}
use Rattle.std.specs.List.{list_any, count_by}
use Rattle.std.proofs.lemmas.Bool.Decides.{nat_tests}
use Rattle.std.proofs.lemmas.List.Sums.{sum_by-cons, sum_by_push}
use Rattle.std.proofs.lemmas.List.{take_more, map-append}

module _ {X : Type 0} (p : X → Bool) where
  pub count_by-cons : (x : X) (xs : List X) → count_by p (x ∷ xs) ≡ cond (p x) 1 0 + count_by p xs
  count_by-cons x xs = sum_by-cons (λ y. cond (p y) 1 0) x xs

  -- none is counted where none passes
  pub count_none : (xs : List X) → (count_by p xs == 0) ≡ not (list_any p xs)
  count_none [] = refl
  count_none (x ∷ xs) = ap (λ n. n == 0) (count_by-cons x xs) ∙ at (p x) (count_by p xs) (list_any p xs) (count_none xs)
    where
      at : (b : Bool) (n : ℕ) (r : Bool) → (n == 0) ≡ not r → (cond b 1 0 + n == 0) ≡ not (b || r)
      at true n r e = grind (arith, nat_tests)
      at false n r e = let z : 0 + n ≡ n = omega arith in ap (λ k. k == 0) z ∙ e

  -- the first is no longer counted
  pub count_rest : (x : X) (xs : List X) (old new : ℕ) → old ≡ count_by p (x ∷ xs) → new ≡ old - cond (p x) 1 0 → new ≡ count_by p xs
  count_rest x xs old new all less = let e = count_by-cons x xs in omega (arith, e, all, less)

  -- it is the last that passes
  pub count_last : (x : X) (xs : List X) (old new : ℕ) (last : Bool) → old ≡ count_by p (x ∷ xs) → new ≡ old - cond (p x) 1 0 → last ≡ (p x && (new == 0)) → last ≡ (p x && not (list_any p xs))
  count_last x xs old new last all less e = e ∙ ap (λ b. p x && b) (ap (λ n. n == 0) (count_rest x xs old new all less) ∙ count_none xs)

-- one more of some items was tested
pub count_more : {A X : Type 0} (p : X → Bool) (f : A → X) (xs : List A) (k : ℕ) (d : A) (b : Bool) (n m : ℕ) → k < length xs → b ≡ p (f (get_or xs k d))
    → n ≡ count_by p (map f (take k xs)) → m ≡ n + cond b 1 0 → m ≡ count_by p (map f (take (k + 1) xs))
count_more p f xs k d b n m lt tested so_far more =
    let x = f (get_or xs k d) in
    let whole = ap (λ l. count_by p (map f l)) (take_more xs k d lt) ∙ (ap (count_by p) (map-append f (take k xs) (get_or xs k d ∷ [])) ∙ sum_by_push (λ y. cond (p y) 1 0) (map f (take k xs)) x) in
    more ∙ ((λ j. so_far j + cond (tested j) 1 0) ∙ sym whole)
