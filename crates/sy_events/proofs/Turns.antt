-- One turn of a loop over the places of a list.
use Rattle.std.proofs.Common.{◌≡◌, ℕ, zero, suc, ◌+◌, List, [], ◌∷◌, ◌++◌, map, take, slice_get, Option, Some, None, refl, ap, ◌∙◌, arith}
use Rattle.std.specs.List.{flat_map, fold}
use Rattle.std.proofs.lemmas.List.Sums.{fold-append}

-- an item that is there is taken last
fold_turn_at : {A B : Type 0} (f : B → A → B) (b : B) (xs : List A) (i : ℕ) (x : A) → slice_get xs i ≡ Some x
    → fold f b (take (suc i) xs) ≡ f (fold f b (take i xs)) x
fold_turn_at f b [] i x h = cc
fold_turn_at {A = A} {B = B} f b (y ∷ xs) zero x h = ap (λ o. at_or o) h
  where
    at_or : Option A → B
    at_or None = f b y
    at_or (Some z) = f b z
fold_turn_at f b (y ∷ xs) (suc i) x h = fold_turn_at f (f b y) xs i x h

pub fold_turn : {A B : Type 0} (f : B → A → B) (b : B) (xs : List A) (i : ℕ) (x : A) → slice_get xs i ≡ Some x
    → fold f b (take (i + 1) xs) ≡ f (fold f b (take i xs)) x
fold_turn f b xs i x h = let e : i + 1 ≡ suc i = omega arith in ap (λ n. fold f b (take n xs)) e ∙ fold_turn_at f b xs i x h

map_turn_at : {A B : Type 0} (f : A → B) (xs : List A) (i : ℕ) (x : A) → slice_get xs i ≡ Some x
    → map f (take (suc i) xs) ≡ map f (take i xs) ++ f x ∷ []
map_turn_at f [] i x h = cc
map_turn_at {A = A} {B = B} f (y ∷ xs) zero x h = ap (λ o. at_or o ∷ []) h
  where
    at_or : Option A → B
    at_or None = f y
    at_or (Some z) = f z
map_turn_at f (y ∷ xs) (suc i) x h = ap (λ l. f y ∷ l) (map_turn_at f xs i x h)

pub map_turn : {A B : Type 0} (f : A → B) (xs : List A) (i : ℕ) (x : A) → slice_get xs i ≡ Some x
    → map f (take (i + 1) xs) ≡ map f (take i xs) ++ f x ∷ []
map_turn f xs i x h = let e : i + 1 ≡ suc i = omega arith in ap (λ n. map f (take n xs)) e ∙ map_turn_at f xs i x h

-- past the end there is no more to take
ended_at : {A : Type 0} (xs : List A) (i : ℕ) → slice_get xs i ≡ None → take (suc i) xs ≡ take i xs
ended_at [] zero h = refl
ended_at [] (suc i) h = refl
ended_at (x ∷ xs) zero h = cc
ended_at (x ∷ xs) (suc i) h = ap (λ l. x ∷ l) (ended_at xs i h)

pub ended : {A : Type 0} (xs : List A) (i : ℕ) → slice_get xs i ≡ None → take (i + 1) xs ≡ take i xs
ended xs i h = let e : i + 1 ≡ suc i = omega arith in ap (λ n. take n xs) e ∙ ended_at xs i h

-- a fold over parts that are joined goes part by part
pub fold_parts : {A B C : Type 0} (f : B → A → B) (parts : C → List A) (b : B) (xs : List C) → fold f b (flat_map parts xs) ≡ fold (λ c x. fold f c (parts x)) b xs
fold_parts f parts b [] = refl
fold_parts f parts b (x ∷ xs) = fold-append f b (parts x) (flat_map parts xs) ∙ fold_parts f parts (fold f b (parts x)) xs
