-- What a loop that writes each item of a list needs.
use Rattle.std.proofs.Common.{◌≡◌, ℕ, zero, suc, ◌+◌, ◌<◌, ◌≤◌, List, [], ◌∷◌, ◌++◌, map, length, take, drop, get_or, slice_set, refl, ◌∙◌, ap, arith}

module _ {X : Type 0} (f : X → X) where
  -- one item more is written
  set_at : (init : List X) (i : ℕ) (d : X) → i < length init → slice_set (map f (take i init) ++ drop i init) i (f (get_or (map f (take i init) ++ drop i init) i d)) ≡ map f (take (suc i) init) ++ drop (suc i) init
  set_at [] i d lt = absurd (omega arith)
  set_at (x ∷ xs) zero d lt = refl
  set_at (x ∷ xs) (suc i) d lt = ap (λ l. f x ∷ l) (set_at xs i d (omega arith))

  pub set_goes_on : (init items : List X) (i : ℕ) (d y : X) → i < length init → items ≡ map f (take i init) ++ drop i init → y ≡ f (get_or items i d) → slice_set items i y ≡ map f (take (i + 1) init) ++ drop (i + 1) init
  set_goes_on init items i d y lt e made =
      ap (slice_set items i) made
      ∙ ((λ j. slice_set (e j) i (f (get_or (e j) i d)))
      ∙ (set_at init i d lt
      ∙ (let s : suc i ≡ i + 1 = omega arith in ap (λ k. map f (take k init) ++ drop k init) s)))

  all_taken : (init : List X) (i : ℕ) → length init ≤ i → map f (take i init) ++ drop i init ≡ map f init
  all_taken [] zero le = refl
  all_taken [] (suc i) le = refl
  all_taken (x ∷ xs) zero le = absurd (omega arith)
  all_taken (x ∷ xs) (suc i) le = ap (λ l. f x ∷ l) (all_taken xs i (omega arith))

  pub set_is_done : (init items : List X) (i : ℕ) → length init ≤ i → items ≡ map f (take i init) ++ drop i init → items ≡ map f init
  set_is_done init items i le e = e ∙ all_taken init i le
