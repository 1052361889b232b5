-- The bases of types, by the types' numbers in the order of the text, and the types whose isA chains reach themselves.
use Rattle.std.specs.Prelude.{ℕ, not, List, map, Option, Some, None}
use Rattle.std.specs.List.{flat_map, enumerate_from}
use Rattle.sy_chains.specs.Chains.{Bases, is_cyclic}
use Rattle.sy_lex.specs.declared.written.Written.{Written}
use Rattle.sy_spec.specs.declared.domain.TypeTree.{TypeTree}
use Rattle.sy_spec.specs.declared.domain.TypeTree.TheVariants as AType
use Rattle.sy_spec.specs.declared.domain.BaseTree.TheVariants as Base
use Rattle.sy_spec.specs.declared.domain.BaseTree.{BaseTree}
use Rattle.sy_domain.specs.declared.failure.Failure.{Failure}
use Rattle.sy_domain.specs.declared.meaning.Sort.TheVariants as S
use Rattle.sy_domain.specs.declared.meaning.Meaning.{Meaning}
use Rattle.sy_domain.specs.declared.meaning.Meaning.TheVariants as M
use Rattle.sy_domain.specs.Failures.{unless}
use Rattle.sy_domain.specs.Names.{Table, meaning_in}

-- the number of the declared type that a name stands for
abbrev pub number_of : Option Meaning → Option ℕ
number_of (Some (M.Type (S.Declared n))) = Some n
number_of _ = None

-- the number of the type that a base names
abbrev pub base_named : Table → BaseTree → Option ℕ
base_named table (Base.Named name) = number_of (meaning_in table name.text)
base_named table _ = None

-- the number of the type that a type is derived from
abbrev pub base_number : Table → TypeTree → Option ℕ
base_number table (AType.Enumeration name e) = None
base_number table (AType.Derived name base attributes) = base_named table base

abbrev pub type_name : TypeTree → Written
type_name (AType.Enumeration name e) = name
type_name (AType.Derived name base attributes) = name

-- the name of a numbered type whose chain reaches itself
abbrev pub cyclic_name : Bases → ℕ × TypeTree → List Failure
cyclic_name bases p = unless (not (is_cyclic bases p.0)) (type_name p.1)

-- the types whose chains reach themselves
abbrev pub cyclic_types : Table → List TypeTree → List Failure
cyclic_types table types = flat_map (cyclic_name (map (base_number table) types)) (enumerate_from 0 types)
