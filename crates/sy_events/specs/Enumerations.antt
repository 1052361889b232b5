-- The enumerations of a deed: those of the specification, in the order of the text.
use Rattle.std.specs.Prelude.{ℕ, Bool, true, false, List, [], ◌∷◌, map, Option}
use Rattle.std.specs.List.{flat_map}
use Rattle.sy_core.specs.declared.deed.Choices.{Choices}
use Rattle.sy_spec.specs.declared.domain.TypeTree.{TypeTree}
use Rattle.sy_spec.specs.declared.domain.TypeTree.TheVariants as AType
use Rattle.sy_events.specs.Numbers.{numbers_from}

-- the constants of an enumeration, by their names
abbrev pub choices_of_type : TypeTree → List Choices
choices_of_type (AType.Enumeration name e) = record { names = map (λ c. c.text) e.constants } ∷ []
choices_of_type (AType.Derived name base attributes) = []

-- the enumerations of some types
abbrev pub choices_of : List TypeTree → List Choices
choices_of types = flat_map choices_of_type types

-- a type is an enumeration
abbrev pub is_enumeration : TypeTree → Bool
is_enumeration (AType.Enumeration name e) = true
is_enumeration (AType.Derived name base attributes) = false

-- the numbers of the enumerations among themselves, by their numbers among the types
abbrev pub choice_numbers : List TypeTree → List (Option ℕ)
choice_numbers types = numbers_from 0 (map is_enumeration types)
