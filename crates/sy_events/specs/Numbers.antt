-- The numbers of some things among those of them that are meant.
use Rattle.std.specs.Prelude.{ℕ, suc, Bool, true, false, List, [], ◌∷◌, Option, Some, None}

-- those that are meant are numbered from a first number on, in their order
abbrev pub numbers_from : ℕ → List Bool → List (Option ℕ)
numbers_from n [] = []
numbers_from n (true ∷ meant) = Some n ∷ numbers_from (suc n) meant
numbers_from n (false ∷ meant) = None ∷ numbers_from n meant
