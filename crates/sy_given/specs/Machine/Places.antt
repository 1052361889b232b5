-- Where each name stands first among some things.
use Rattle.std.specs.Prelude.{◌≡◌, ℕ, Bool, List, slice_get, option_and_then}
use Rattle.std.specs.List.{find}
use Rattle.std.specs.Map.{lookup}
use Rattle.sy_lex.specs.declared.written.Written.{Written}
use Rattle.sy_domain.specs.Names.{same}

-- a thing has the name
abbrev pub is_named : {A : Type 0} → (A → Written) → List ℕ → A → Bool
is_named own name x = same name (own x).text

-- the places lead to the first of the things that has a name
abbrev pub IsIndexOf : {A : Type 0} → (A → Written) → List A → List (List ℕ × ℕ) → Type 0
IsIndexOf own things places =
    (name : List ℕ) → option_and_then (slice_get things) (lookup (same name) places) ≡ find (is_named own name) things
