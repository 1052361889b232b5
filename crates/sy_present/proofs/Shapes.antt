-- Two lists of the same shape have items of the same shape at the same numbers.
use Rattle.std.proofs.Common.{◌≡◌, ℕ, ◌<◌, List, map, length, get_or, Some, slice_get, refl, ap, sym, ◌∙◌}
use Rattle.std.specs.Option.{option_map}
use Rattle.std.proofs.lemmas.Option.{slice_get-map, slice_get_read}

-- the items at a number have the same shape
pub shape_at : {A B C : Type 0} (f : A → C) (g : B → C) (xs : List A) (ys : List B) (i : ℕ) (x : A) (y : B) → map f xs ≡ map g ys → slice_get xs i ≡ Some x → slice_get ys i ≡ Some y → f x ≡ g y
shape_at f g xs ys i x y e at_x at_y =
    let mapped = sym (slice_get-map f xs i) ∙ (ap (λ zs. slice_get zs i) e ∙ slice_get-map g ys i) in
    let same = sym (ap (option_map f) at_x) ∙ (mapped ∙ ap (option_map g) at_y) in
    cc

-- an item that was read at a number of a list's copy stands there in the list
pub found_at : {A : Type 0} (copy xs : List A) (i : ℕ) (x : A) → copy ≡ xs → i < length copy → x ≡ get_or copy i x → slice_get xs i ≡ Some x
found_at copy xs i x e below is = ap (λ zs. slice_get zs i) (sym e) ∙ slice_get_read copy _ i x refl below is
