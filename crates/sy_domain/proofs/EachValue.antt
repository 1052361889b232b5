-- A value for each item of a list and its number, one item further.
use Rattle.std.proofs.Common.{◌≡◌, ℕ, ◌+◌, ◌<◌, List, [], ◌∷◌, ◌++◌, length, take, get_or, map, refl, sym, ap, ◌∙◌}
use Rattle.std.specs.List.{enumerate_from}
use Rattle.sy_base.proofs.Numbered.{enumerate_more}

map_push : {A B : Type 0} (h : A → B) (xs : List A) (x : A) → map h (xs ++ x ∷ []) ≡ map h xs ++ h x ∷ []
map_push h [] x = refl
map_push h (y ∷ ys) x = ap (λ l. h y ∷ l) (map_push h ys x)

pub value_turn : {A D : Type 0} (g : ℕ × A → D) (ys zs : List D) (y : D) (xs : List A) (i : ℕ) (x : A)
    → i < length xs → x ≡ get_or xs i x → ys ≡ map g (enumerate_from 0 (take i xs)) → zs ≡ ys ++ y ∷ []
    → y ≡ g (i, x) → zs ≡ map g (enumerate_from 0 (take (i + 1) xs))
value_turn g ys zs y xs i x within is done pushed made =
    pushed
    ∙ ap (λ l. l ++ y ∷ []) done
    ∙ ap (λ d. map g (enumerate_from 0 (take i xs)) ++ d ∷ []) (made ∙ ap (λ a. g (i, a)) is)
    ∙ sym (ap (map g) (enumerate_more xs i x within) ∙ map_push g (enumerate_from 0 (take i xs)) (i, get_or xs i x))
