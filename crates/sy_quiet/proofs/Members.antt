-- Tests over lists by their members.
use Rattle.std.proofs.Common.{◌≡◌, Bool, true, false, ◌||◌, ◌&&◌, List, [], ◌∷◌, inl, inr, map, refl, sym, ◌∙◌, ap}
use Rattle.std.proofs.Math.Bool.{or-true}
use Rattle.std.specs.List.{list_any, filter}
use Rattle.sy_core.proofs.Members.{Among}

pub bool_same : (a b : Bool) → (a ≡ true → b ≡ true) → (b ≡ true → a ≡ true) → a ≡ b
bool_same true b f g = sym (f refl)
bool_same false true f g = g refl
bool_same false false f g = refl

-- a test that a member passes
pub any_in : {X : Type 0} (p : X → Bool) (xs : List X) (x : X) → Among xs x → p x ≡ true → list_any p xs ≡ true
any_in p [] x none h = absurd none
any_in p (y ∷ ys) x (inl e) h = ap (λ b. b || list_any p ys) (ap p e ∙ h)
any_in p (y ∷ ys) x (inr m) h = ap (λ b. p y || b) (any_in p ys x m h) ∙ or-true (p y)

-- the member that passes a test
pub some_in : {X : Type 0} (p : X → Bool) (xs : List X) → list_any p xs ≡ true → (x : X) × Among xs x × (p x ≡ true)
some_in p [] h = cc
some_in {X = X} p (y ∷ ys) h = here (p y) refl (some_in p ys) h
  where
    here : (b : Bool) → p y ≡ b → (list_any p ys ≡ true → (x : X) × Among ys x × (p x ≡ true)) → (b || list_any p ys) ≡ true → (x : X) × Among (y ∷ ys) x × (p x ≡ true)
    here true e later h = (y, inl refl, e)
    here false e later h = let more = later h in (more.0, inr more.1, more.2)

-- a test of what is left of the members that pass another
pub any_of_kept : {X Y : Type 0} (f : X → Y) (kept : X → Bool) (p : Y → Bool) (xs : List X) → list_any p (map f (filter kept xs)) ≡ list_any (λ x. kept x && p (f x)) xs
any_of_kept f kept p [] = refl
any_of_kept f kept p (x ∷ xs) = here (kept x) refl (any_of_kept f kept p xs)
  where
    here : (b : Bool) → kept x ≡ b → list_any p (map f (filter kept xs)) ≡ list_any (λ x. kept x && p (f x)) xs → list_any p (map f (filter kept (x ∷ xs))) ≡ ((kept x && p (f x)) || list_any (λ x. kept x && p (f x)) xs)
    here true e more = rw e (ap (λ b. p (f x) || b) more)
    here false e more = rw e more
