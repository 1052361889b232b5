-- Facts of things that may be missing: each is said of what is there.
use Rattle.std.proofs.Common.{◌≡◌, ◌&&◌, Bool, true, false, if◌then◌else◌, List, [], ◌∷◌, map, Option, Some, None, option_map, option_and_then, refl}
use Rattle.std.specs.Prelude.{IfSome, ⊤}
use Rattle.std.specs.List.{list_all}
use Rattle.sy_lower.specs.Parts.{all_there, that_passes}
use Rattle.sy_lower.specs.Propositions.{pair}

module _ {A B : Type 0} (f : A → B) (P : A → Type 0) (Q : B → Type 0) where
  -- of what is made of each
  pub of_map : ((x : A) → P x → Q (f x)) → (o : Option A) → IfSome o P → IfSome (option_map f o) Q
  of_map gives None h = tt
  of_map gives (Some x) h = gives x h

module _ {A B : Type 0} (f : A → B) (Q : B → Type 0) where
  pub of_any_map : ((x : A) → Q (f x)) → (o : Option A) → IfSome (option_map f o) Q
  of_any_map gives None = tt
  of_any_map gives (Some x) = gives x

module _ {A B : Type 0} (f : A → Option B) (P : A → Type 0) (Q : B → Type 0) where
  pub of_then : ((x : A) → P x → IfSome (f x) Q) → (o : Option A) → IfSome o P → IfSome (option_and_then f o) Q
  of_then gives None h = tt
  of_then gives (Some x) h = gives x h

module _ {A B : Type 0} (f : A → Option B) (Q : B → Type 0) where
  pub of_any_then : ((x : A) → IfSome (f x) Q) → (o : Option A) → IfSome (option_and_then f o) Q
  of_any_then gives None = tt
  of_any_then gives (Some x) = gives x

-- what is said of it may say less
pub weaken : {A : Type 0} (P Q : A → Type 0) → ((x : A) → P x → Q x) → (o : Option A) → IfSome o P → IfSome o Q
weaken P Q gives None h = tt
weaken P Q gives (Some x) h = gives x h

-- what passes a test passes it
pub passing : {A : Type 0} (test : A → Bool) (x : A) → IfSome (that_passes test x) (λ y. test y ≡ true)
passing test x = at (test x) refl
  where
    at : (b : Bool) → test x ≡ b → IfSome (if b then Some x else None) (λ y. test y ≡ true)
    at true e = e
    at false e = tt

pub if_passing : {A : Type 0} (test : A → Bool) (o : Option A) → IfSome (option_and_then (that_passes test) o) (λ y. test y ≡ true)
if_passing test None = tt
if_passing test (Some x) = passing test x

-- all pass a test, where each does
pub all_passing : {A B : Type 0} (f : A → Option B) (test : B → Bool) → ((x : A) → IfSome (f x) (λ y. test y ≡ true)) → (xs : List A)
    → IfSome (all_there (map f xs)) (λ ys. list_all test ys ≡ true)
all_passing f test gives [] = refl
all_passing {B = B} f test gives (x ∷ xs) = at (f x) (gives x) (all_passing f test gives xs)
  where
    more : (y : B) → test y ≡ true → (o : Option (List B)) → IfSome o (λ ys. list_all test ys ≡ true)
        → IfSome (option_map (λ ys. y ∷ ys) o) (λ ys. list_all test ys ≡ true)
    more y h None k = tt
    more y h (Some ys) k = λ j. h j && k j

    at : (o : Option B) → IfSome o (λ y. test y ≡ true) → IfSome (all_there (map f xs)) (λ ys. list_all test ys ≡ true)
        → IfSome (all_there (o ∷ map f xs)) (λ ys. list_all test ys ≡ true)
    at None h rest = tt
    at (Some y) h rest = more y h (all_there (map f xs)) rest

-- of two things, where both are there
pub of_pair : {A B : Type 0} (P : A → Type 0) (Q : B → Type 0) (a : Option A) (b : Option B)
    → IfSome a P → IfSome b Q → IfSome (pair a b) (λ p. P p.0 × Q p.1)
of_pair P Q None b h k = tt
of_pair P Q (Some x) None h k = tt
of_pair P Q (Some x) (Some y) h k = (h, k)
