-- What is in a list, by cases.
use Rattle.std.proofs.Common.{◌≡◌, ℕ, zero, suc, ◌<◌, Bool, ◌||◌, List, [], ◌∷◌, map, ◌⊎◌, inl, inr, length, refl, ap, arith}
use Rattle.std.specs.List.{Contains, list_any}

-- it is the first item, or in the rest
abbrev pub Among : {X : Type 0} → List X → X → Type 0
Among [] x = ⊥
Among (y ∷ ys) x = (y ≡ x) ⊎ Among ys x

pub contained : {X : Type 0} (xs : List X) (x : X) → Among xs x → Contains xs x
contained [] x none = absurd none
contained (y ∷ ys) x (inl e) = (0, omega arith, e)
contained (y ∷ ys) x (inr m) = let (k, lt, e) = contained ys x m in (suc k, omega arith, e)

pub among : {X : Type 0} (xs : List X) (x : X) → Contains xs x → Among xs x
among [] x (k, lt, e) = absurd (omega arith)
among (y ∷ ys) x (zero, lt, e) = inl e
among (y ∷ ys) x (suc k, lt, e) = inr (among ys x (k, omega arith, e))

-- a test of what all members have
pub any_of_all : {X Y : Type 0} (f : X → Y) (p : Y → Bool) (xs : List X) → list_any p (map f xs) ≡ list_any (λ x. p (f x)) xs
any_of_all f p [] = refl
any_of_all f p (x ∷ xs) = ap (λ b. p (f x) || b) (any_of_all f p xs)
