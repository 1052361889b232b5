-- Lists whose items may each be missing, one item further: for loops that end where one is.
use Rattle.std.proofs.Common.{◌≡◌, ℕ, ◌+◌, ◌<◌, List, [], ◌∷◌, ◌++◌, length, drop, get_or, map, Option, Some, None, option_map, refl, sym, ap, ◌∙◌, append_assoc}
use Rattle.std.proofs.lemmas.List.{append-nil, drop_all, drop_more}
use Rattle.sy_lower.specs.Parts.{all_there}

-- what is gathered so far, and what the rest gives
abbrev pub gathered : {A B : Type 0} → (A → Option B) → List B → List A → Option (List B)
gathered f list rest = option_map (λ ys. list ++ ys) (all_there (map f rest))

one_more : {B : Type 0} (list : List B) (y : B) (o : Option (List B))
    → option_map (λ ys. list ++ ys) (option_map (λ ys. y ∷ ys) o) ≡ option_map (λ ys. (list ++ y ∷ []) ++ ys) o
one_more list y None = refl
one_more list y (Some ys) = ap (λ l. Some l) (sym (append_assoc list (y ∷ []) ys))

-- the item with number i is there
pub more : {A B : Type 0} (f : A → Option B) (whole : Option (List B)) (list : List B) (xs : List A) (i : ℕ) (x : A) (y : B)
    → i < length xs → x ≡ get_or xs i x → whole ≡ gathered f list (drop i xs) → f x ≡ Some y
    → whole ≡ gathered f (list ++ y ∷ []) (drop (i + 1) xs)
more f whole list xs i x y within is done there =
    done
    ∙ ap (gathered f list) (drop_more xs i x within ∙ ap (λ z. z ∷ drop (i + 1) xs) (sym is))
    ∙ ap (λ o. option_map (λ ys. list ++ ys) (all_there (o ∷ map f (drop (i + 1) xs)))) there
    ∙ one_more list y (all_there (map f (drop (i + 1) xs)))

-- it is missing
pub missing : {A B : Type 0} (f : A → Option B) (whole : Option (List B)) (list : List B) (xs : List A) (i : ℕ) (x : A)
    → i < length xs → x ≡ get_or xs i x → whole ≡ gathered f list (drop i xs) → f x ≡ None → whole ≡ None
missing f whole list xs i x within is done gone =
    done
    ∙ ap (gathered f list) (drop_more xs i x within ∙ ap (λ z. z ∷ drop (i + 1) xs) (sym is))
    ∙ ap (λ o. option_map (λ ys. list ++ ys) (all_there (o ∷ map f (drop (i + 1) xs)))) gone
