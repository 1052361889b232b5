-- The isA chains of types, by the types' numbers in the order of the text.
use Rattle.std.specs.Prelude.{◌≡◌, ℕ, zero, suc, Bool, false, nat_eq, List, [], ◌∷◌, length, slice_get, Option, Some, None, option_and_then}
use Rattle.std.specs.List.{list_any}

-- the base of each type, by the type's number: none for an enumeration, a role, an asset and an event
abbrev pub Bases : Type 0
Bases = List (Option ℕ)

abbrev pub base_at : Bases → ℕ → Option ℕ
base_at bases n = option_and_then (λ base. base) (slice_get bases n)

-- the types from one on, each the base of the one before, so many at most
abbrev pub chain : Bases → ℕ → Option ℕ → List ℕ
chain bases zero at = []
chain bases (suc most) None = []
chain bases (suc most) (Some n) = n ∷ chain bases most (base_at bases n)

-- the isA chain above a type, from its base on. It has at most as many types as there are, unless it reaches one twice
abbrev pub above : Bases → ℕ → List ℕ
above bases n = chain bases (length bases) (base_at bases n)

-- the type's chain reaches the type itself
abbrev pub is_cyclic : Bases → ℕ → Bool
is_cyclic bases n = list_any (nat_eq n) (above bases n)

-- no type's chain reaches the type itself
abbrev pub NoCycle : Bases → Type 0
NoCycle bases = (n : ℕ) → is_cyclic bases n ≡ false

-- the last of a list, or what stands before the list
abbrev pub last_or : ℕ → List ℕ → ℕ
last_or n [] = n
last_or n (m ∷ ms) = last_or m ms

-- the type at the end of a type's isA chain: the type itself, where it has no base
abbrev pub chain_end : Bases → ℕ → ℕ
chain_end bases n = last_or n (above bases n)
