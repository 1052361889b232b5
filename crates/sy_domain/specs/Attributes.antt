-- The attributes of types: a type has those of its base, and then its own.
use Rattle.std.specs.Prelude.{ℕ, Bool, not, List, [], ◌++◌, length, map, reverse, slice_get, Option, Some, None}
use Rattle.std.specs.List.{flat_map, enumerate_from, list_any}
use Rattle.sy_spec.specs.declared.domain.TypeTree.{TypeTree}
use Rattle.sy_spec.specs.declared.domain.TypeTree.TheVariants as AType
use Rattle.sy_spec.specs.declared.domain.AttrTree.{AttrTree}
use Rattle.sy_spec.specs.declared.contract.SpecTree.{SpecTree}
use Rattle.sy_spec.specs.declared.contract.DeclTree.{DeclTree}
use Rattle.sy_domain.specs.declared.failure.Failure.{Failure}
use Rattle.sy_domain.specs.Failures.{unless}
use Rattle.sy_domain.specs.Names.{Table, same, repeats}
use Rattle.sy_chains.specs.Chains.{Bases, above}
use Rattle.sy_domain.specs.Chains.{base_number}

-- a type's own attributes
abbrev pub own : TypeTree → List AttrTree
own (AType.Enumeration name e) = []
own (AType.Derived name base attributes) = attributes

abbrev pub own_if : Option TypeTree → List AttrTree
own_if (Some tree) = own tree
own_if None = []

-- those of the type with a number
abbrev pub own_at : List TypeTree → ℕ → List AttrTree
own_at types n = own_if (slice_get types n)

-- those that a type inherits: the own ones of each type above it, the last base's first
abbrev pub inherited : List TypeTree → Bases → ℕ → List AttrTree
inherited types bases n = flat_map (own_at types) (reverse (above bases n))

-- all attributes of a type, the inherited ones first
abbrev pub attributes : List TypeTree → Bases → ℕ → List AttrTree
attributes types bases n = inherited types bases n ++ own_at types n

-- an attribute has the name
abbrev pub has_name : List ℕ → AttrTree → Bool
has_name name a = same a.name.text name

-- a type has an own attribute with the name
abbrev pub owns : List TypeTree → List ℕ → ℕ → Bool
owns types name n = list_any (has_name name) (own_at types n)

-- an attribute whose name an own one of some types has too
abbrev pub clash : List TypeTree → List ℕ → AttrTree → List Failure
clash types others a = unless (not (list_any (owns types a.name.text) others)) a.name

-- the own attributes of a numbered type that have the name of an inherited one
abbrev pub clashes : List TypeTree → Bases → ℕ × TypeTree → List Failure
clashes types bases p = flat_map (clash types (above bases p.0)) (own p.1)

-- the attributes that a declaration gives twice
abbrev pub given_twice : DeclTree → List Failure
given_twice d = repeats [] (map (λ g. g.name) d.gives)

-- the attributes that have an inherited one's name, and those that a declaration gives twice
abbrev pub clashing : Table → SpecTree → List Failure
clashing table spec =
    let types = spec.domain.types in
    flat_map (clashes types (map (base_number table) types)) (enumerate_from 0 types)
    ++ flat_map given_twice spec.contract.declarations
