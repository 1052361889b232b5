-- What is made of the items of a list and their numbers, one item further: for loops over `iter().enumerate()`.
-- In each `turn`, x is the item with number i, s what stood before its turn, and t what stands behind it.
use Rattle.std.proofs.Common.{◌≡◌, ℕ, ◌+◌, ◌<◌, List, [], ◌∷◌, ◌++◌, length, take, get_or, map, flat_map, fold, refl, sym, ap, ◌∙◌, append_assoc, arith}
use Rattle.std.specs.List.{enumerate_from}
use Rattle.std.proofs.lemmas.List.{take_more, length-take, append-nil}
use Rattle.std.proofs.lemmas.Grind.{fold-append, flat_map-append}

-- ---- the numbered items themselves

pub enumerate-append : {A : Type 0} (n : ℕ) (xs : List A) (x : A)
    → enumerate_from n (xs ++ x ∷ []) ≡ enumerate_from n xs ++ (n + length xs, x) ∷ []
enumerate-append n [] x = ap (λ m. (m, x) ∷ []) (omega arith)
enumerate-append n (y ∷ ys) x =
    ap (λ l. (n, y) ∷ l)
    (enumerate-append (n + 1) ys x
    ∙ ap (λ m. enumerate_from (n + 1) ys ++ (m, x) ∷ []) (omega arith))

pub enumerate_more : {A : Type 0} (xs : List A) (i : ℕ) (d : A) → i < length xs
    → enumerate_from 0 (take (i + 1) xs) ≡ enumerate_from 0 (take i xs) ++ (i, get_or xs i d) ∷ []
enumerate_more xs i d within =
    ap (enumerate_from 0) (take_more xs i d within)
    ∙ enumerate-append 0 (take i xs) (get_or xs i d)
    ∙ ap (λ m. enumerate_from 0 (take i xs) ++ (m, get_or xs i d) ∷ []) (grind (arith, length-take))

-- ---- a list with one value for each item, seen through h

map-append : {A B : Type 0} (h : A → B) (xs : List A) (x : A) → map h (xs ++ x ∷ []) ≡ map h xs ++ h x ∷ []
map-append h [] x = refl
map-append h (y ∷ ys) x = ap (λ l. h y ∷ l) (map-append h ys x)

-- one value is pushed for each item
pub map_turn : {A C D : Type 0} (h : C → D) (g : ℕ × A → D) (ys zs : List C) (y : C) (xs : List A) (i : ℕ) (x : A)
    → i < length xs → map h ys ≡ map g (enumerate_from 0 (take i xs)) → zs ≡ ys ++ y ∷ []
    → h y ≡ g (i, get_or xs i x) → map h zs ≡ map g (enumerate_from 0 (take (i + 1) xs))
map_turn h g ys zs y xs i x within done pushed made =
    ap (map h) pushed
    ∙ map-append h ys y
    ∙ ap (λ l. l ++ h y ∷ []) done
    ∙ ap (λ d. map g (enumerate_from 0 (take i xs)) ++ d ∷ []) made
    ∙ sym (ap (map g) (enumerate_more xs i x within)
    ∙ map-append g (enumerate_from 0 (take i xs)) (i, get_or xs i x))

-- ---- a list to which each item adds some values

-- the values of an item are appended
pub flat_map_turn : {A B : Type 0} (g : ℕ × A → List B) (b : List B) (xs : List A) (i : ℕ) (x : A)
    → i < length xs → x ≡ get_or xs i x → (s t : List B)
    → s ≡ b ++ flat_map g (enumerate_from 0 (take i xs)) → t ≡ s ++ g (i, x)
    → t ≡ b ++ flat_map g (enumerate_from 0 (take (i + 1) xs))
flat_map_turn g b xs i x within is s t done turn =
    let before = flat_map g (enumerate_from 0 (take i xs)) in
    turn
    ∙ ap (λ u. u ++ g (i, x)) done
    ∙ append_assoc b before (g (i, x))
    ∙ ap (λ l. b ++ (before ++ l)) (ap (λ a. g (i, a)) is ∙ sym (append-nil (g (i, get_or xs i x))))
    ∙ ap (λ l. b ++ l)
    (sym (ap (flat_map g) (enumerate_more xs i x within)
    ∙ flat_map-append g (enumerate_from 0 (take i xs)) ((i, get_or xs i x) ∷ [])))

-- ---- a state that each item changes

fold_map-append : {A B C : Type 0} (f : B → C → B) (g : A → C) (b : B) (es : List A) (e : A)
    → fold f b (map g (es ++ e ∷ [])) ≡ f (fold f b (map g es)) (g e)
fold_map-append f g b [] e = refl
fold_map-append f g b (x ∷ es) e = fold_map-append f g (f b (g x)) es e

pub fold_map_more : {A B C : Type 0} (f : B → C → B) (g : ℕ × A → C) (b : B) (xs : List A) (i : ℕ) (d : A)
    → i < length xs
    → fold f b (map g (enumerate_from 0 (take (i + 1) xs)))
    ≡ f (fold f b (map g (enumerate_from 0 (take i xs)))) (g (i, get_or xs i d))
fold_map_more f g b xs i d within =
    ap (λ es. fold f b (map g es)) (enumerate_more xs i d within)
    ∙ fold_map-append f g b (enumerate_from 0 (take i xs)) (i, get_or xs i d)

-- one step is made for each item
pub fold_map_turn : {A B C : Type 0} (f : B → C → B) (g : ℕ × A → C) (b : B) (xs : List A) (i : ℕ) (x : A)
    → i < length xs → x ≡ get_or xs i x → (s t : B) (y : C)
    → s ≡ fold f b (map g (enumerate_from 0 (take i xs))) → y ≡ g (i, x) → t ≡ f s y
    → t ≡ fold f b (map g (enumerate_from 0 (take (i + 1) xs)))
fold_map_turn f g b xs i x within is s t y done made turn =
    turn
    ∙ ap (λ u. f u y) done
    ∙ ap (λ z. f (fold f b (map g (enumerate_from 0 (take i xs)))) z) (made ∙ ap (λ a. g (i, a)) is)
    ∙ sym (fold_map_more f g b xs i x within)

fold_flat_map-append : {A B C : Type 0} (f : B → C → B) (g : A → List C) (b : B) (es : List A) (e : A)
    → fold f b (flat_map g (es ++ e ∷ [])) ≡ fold f (fold f b (flat_map g es)) (g e)
fold_flat_map-append f g b [] e = fold-append f b (g e) []
fold_flat_map-append f g b (x ∷ es) e =
    fold-append f b (g x) (flat_map g (es ++ e ∷ []))
    ∙ fold_flat_map-append f g (fold f b (g x)) es e
    ∙ ap (λ c. fold f c (g e)) (sym (fold-append f b (g x) (flat_map g es)))

pub fold_flat_map_more : {A B C : Type 0} (f : B → C → B) (g : ℕ × A → List C) (b : B) (xs : List A) (i : ℕ) (d : A)
    → i < length xs
    → fold f b (flat_map g (enumerate_from 0 (take (i + 1) xs)))
    ≡ fold f (fold f b (flat_map g (enumerate_from 0 (take i xs)))) (g (i, get_or xs i d))
fold_flat_map_more f g b xs i d within =
    ap (λ es. fold f b (flat_map g es)) (enumerate_more xs i d within)
    ∙ fold_flat_map-append f g b (enumerate_from 0 (take i xs)) (i, get_or xs i d)

-- any number of steps is made for each item
pub fold_flat_map_turn : {A B C : Type 0} (f : B → C → B) (g : ℕ × A → List C) (b : B) (xs : List A) (i : ℕ) (x : A)
    → i < length xs → x ≡ get_or xs i x → (s t : B)
    → s ≡ fold f b (flat_map g (enumerate_from 0 (take i xs))) → t ≡ fold f s (g (i, x))
    → t ≡ fold f b (flat_map g (enumerate_from 0 (take (i + 1) xs)))
fold_flat_map_turn f g b xs i x within is s t done turn =
    turn
    ∙ ap (λ u. fold f u (g (i, x))) done
    ∙ ap (λ a. fold f (fold f b (flat_map g (enumerate_from 0 (take i xs)))) (g (i, a))) is
    ∙ sym (fold_flat_map_more f g b xs i x within)
