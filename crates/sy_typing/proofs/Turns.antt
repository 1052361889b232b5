-- What the items of a list add, one item further: for loops over a slice.
use Rattle.std.proofs.Common.{◌≡◌, ℕ, ◌+◌, ◌<◌, List, [], ◌∷◌, ◌++◌, length, take, get_or, map, flat_map, sym, ap, ◌∙◌, append_assoc}
use Rattle.std.proofs.lemmas.List.{take_more, append-nil, map-append}
use Rattle.std.proofs.lemmas.Grind.{flat_map-append}

-- x is the item with number i, s what stood before its turn, and t what stands behind it
pub joined_turn : {A B : Type 0} (f : A → List B) (b : List B) (xs : List A) (i : ℕ) (x : A)
    → i < length xs → x ≡ get_or xs i x → (s t : List B)
    → s ≡ b ++ flat_map (λ part. part) (map f (take i xs)) → t ≡ s ++ f x
    → t ≡ b ++ flat_map (λ part. part) (map f (take (i + 1) xs))
joined_turn f b xs i x within is s t done turn =
    let before = flat_map (λ part. part) (map f (take i xs)) in
    turn
    ∙ ap (λ u. u ++ f x) done
    ∙ append_assoc b before (f x)
    ∙ ap (λ l. b ++ (before ++ l)) (ap f is ∙ sym (append-nil (f (get_or xs i x))))
    ∙ ap (λ l. b ++ l)
    (sym (ap (λ l. flat_map (λ part. part) (map f l)) (take_more xs i x within)
    ∙ ap (flat_map (λ part. part)) (map-append f (take i xs) (get_or xs i x ∷ []))
    ∙ flat_map-append (λ part. part) (map f (take i xs)) (f (get_or xs i x) ∷ [])))
