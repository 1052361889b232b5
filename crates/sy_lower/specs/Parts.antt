-- Things of which each may be missing.
use Rattle.std.specs.Prelude.{Bool, if◌then◌else◌, List, [], ◌∷◌, Option, Some, None, option_map}

-- all of them, where none is missing
abbrev pub all_there : {A : Type 0} → List (Option A) → Option (List A)
all_there [] = Some []
all_there (None ∷ xs) = None
all_there (Some x ∷ xs) = option_map (λ ys. x ∷ ys) (all_there xs)

-- one that passes a test
abbrev pub that_passes : {A : Type 0} → (A → Bool) → A → Option A
that_passes test x = if test x then Some x else None
