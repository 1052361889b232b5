-- Where no two names are the same, a name tells its place.
use Rattle.std.proofs.Common.{◌≡◌, ℕ, zero, suc, Bool, true, false, not, ◌&&◌, ◌||◌, List, [], ◌∷◌, map, Option, Some, None, slice_get, nat_eq, refl, sym, ◌∙◌, ap, subst}
use Rattle.std.specs.List.{list_any}
use Rattle.std.specs.Cmp.Lexicographic.{pointwise}
use Rattle.std.proofs.lemmas.Bool.Decides.{Decides-eqb}
use Rattle.sy_core.specs.Soundness.{are_distinct}
use Rattle.sy_core.proofs.Listing.{and_left, and_right}

name_itself : (name : List ℕ) → pointwise nat_eq name name ≡ true
name_itself [] = refl
name_itself (x ∷ xs) = let a = (Decides-eqb x x).1 refl in let b = name_itself xs in λ j. a j && b j

-- a name that stands later isn't distinct from the first
found_later : {X : Type 0} (name : X → List ℕ) (xs : List X) (k : ℕ) (a b : X) → slice_get xs k ≡ Some b → name a ≡ name b → list_any (pointwise nat_eq (name a)) (map name xs) ≡ true
found_later name [] k a b is same = cc
found_later name (x ∷ xs) zero a b is same =
    let e : x ≡ b = cc in
    ap (λ c. c || list_any (pointwise nat_eq (name a)) (map name xs)) (ap (pointwise nat_eq (name a)) (ap name e ∙ sym same) ∙ name_itself (name a))
found_later name (x ∷ xs) (suc k) a b is same = ap (λ c. pointwise nat_eq (name a) (name x) || c) (found_later name xs k a b is same) ∙ or_true (pointwise nat_eq (name a) (name x))
  where
    or_true : (b : Bool) → (b || true) ≡ true
    or_true true = refl
    or_true false = refl

clash : (b : Bool) → b ≡ true → not b ≡ true → ⊥
clash true e f = cc
clash false e f = cc

pub name_tells : {X : Type 0} (name : X → List ℕ) (xs : List X) → are_distinct (map name xs) ≡ true → (i j : ℕ) (a b : X) → slice_get xs i ≡ Some a → slice_get xs j ≡ Some b → name a ≡ name b → i ≡ j
name_tells name [] h i j a b at_i at_j same = cc
name_tells name (x ∷ xs) h zero zero a b at_i at_j same = refl
name_tells name (x ∷ xs) h zero (suc j) a b at_i at_j same =
    let e : x ≡ a = cc in
    absurd (clash (list_any (pointwise nat_eq (name x)) (map name xs)) (found_later name xs j x b at_j (ap name e ∙ same)) (and_left (not (list_any (pointwise nat_eq (name x)) (map name xs))) (are_distinct (map name xs)) h))
name_tells name (x ∷ xs) h (suc i) zero a b at_i at_j same =
    let e : x ≡ b = cc in
    absurd (clash (list_any (pointwise nat_eq (name x)) (map name xs)) (found_later name xs i x a at_i (ap name e ∙ sym same)) (and_left (not (list_any (pointwise nat_eq (name x)) (map name xs))) (are_distinct (map name xs)) h))
name_tells name (x ∷ xs) h (suc i) (suc j) a b at_i at_j same =
    ap suc (name_tells name xs (and_right (not (list_any (pointwise nat_eq (name x)) (map name xs))) (are_distinct (map name xs)) h) i j a b at_i at_j same)
