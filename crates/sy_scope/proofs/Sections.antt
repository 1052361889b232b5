-- What is found in some lists, one behind the other.
use Rattle.std.proofs.Common.{◌≡◌, List, ◌++◌, flat_map, append_assoc, sym, ap, ◌∙◌}
use Rattle.std.proofs.lemmas.Grind.{flat_map-append}

-- what is found in one more list
pub joins : {A B : Type 0} (f : A → List B) (o s t : List B) (xs ys zs : List A)
    → s ≡ o ++ flat_map f xs → zs ≡ ys → t ≡ s ++ flat_map f zs → t ≡ o ++ flat_map f (xs ++ ys)
joins f o s t xs ys zs done is turn =
    turn
    ∙ ap (λ u. u ++ flat_map f zs) done
    ∙ ap (λ l. (o ++ flat_map f xs) ++ flat_map f l) is
    ∙ append_assoc o (flat_map f xs) (flat_map f ys)
    ∙ ap (λ l. o ++ l) (sym (flat_map-append f xs ys))
