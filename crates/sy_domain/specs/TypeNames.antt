-- Names that stand where a type should stand, and are none.
use Rattle.std.specs.Prelude.{Bool, true, false, List, [], ◌++◌, Option, Some}
use Rattle.std.specs.List.{flat_map}
use Rattle.sy_lex.specs.declared.written.Written.{Written}
use Rattle.sy_spec.specs.declared.domain.TypeTree.{TypeTree}
use Rattle.sy_spec.specs.declared.domain.TypeTree.TheVariants as AType
use Rattle.sy_spec.specs.declared.domain.BaseTree.{BaseTree}
use Rattle.sy_spec.specs.declared.domain.BaseTree.TheVariants as Base
use Rattle.sy_spec.specs.declared.contract.SpecTree.{SpecTree}
use Rattle.sy_domain.specs.declared.failure.Failure.{Failure}
use Rattle.sy_domain.specs.declared.meaning.Meaning.{Meaning}
use Rattle.sy_domain.specs.declared.meaning.Meaning.TheVariants as M
use Rattle.sy_domain.specs.Failures.{unless}
use Rattle.sy_domain.specs.Names.{Table, meaning_in}

-- a type stands under the name
abbrev pub is_type : Option Meaning → Bool
is_type (Some (M.Type sort)) = true
is_type _ = false

-- a name, where it is no type
abbrev pub no_type : Table → Written → List Failure
no_type table name = unless (is_type (meaning_in table name.text)) name

-- the same of the type of a thing
abbrev pub no_type_of : {A : Type 0} → Table → (A → Written) → A → List Failure
no_type_of table type_name x = no_type table (type_name x)

-- the same of a base
abbrev pub no_type_base : Table → BaseTree → List Failure
no_type_base table (Base.Named name) = no_type table name
no_type_base table _ = []

-- the same of a type's base and of the types of its attributes
abbrev pub no_types : Table → TypeTree → List Failure
no_types table (AType.Enumeration name e) = []
no_types table (AType.Derived name base attributes) =
    no_type_base table base ++ flat_map (no_type_of table (λ a. a.type_name)) attributes

-- the bases, and the types of attributes, parameters and declarations, that are no types
abbrev pub unknown_types : Table → SpecTree → List Failure
unknown_types table spec =
    flat_map (no_types table) spec.domain.types
    ++ flat_map (no_type_of table (λ p. p.type_name)) spec.contract.parameters
    ++ flat_map (no_type_of table (λ d. d.type_name)) spec.contract.declarations
