-- What the domain part of a specification says of its types, by their numbers in the order of the text.
use Rattle.std.specs.Prelude.{ℕ, Bool, ◌||◌, is_some, nat_eq, List, [], ◌∷◌, ◌++◌, map, reverse, slice_get, length, Option, Some, None, option_and_then}
use Rattle.std.specs.List.{fold, flat_map, list_any, enumerate_from}
use Rattle.std.specs.Map.{lookup}
use Rattle.indexmap.specs.IndexMap.{insert_entry}
use Rattle.sy_spec.specs.declared.domain.TypeTree.{TypeTree}
use Rattle.sy_spec.specs.declared.domain.TypeTree.TheVariants as AType
use Rattle.sy_spec.specs.declared.domain.BaseTree.{BaseTree}
use Rattle.sy_spec.specs.declared.domain.BaseTree.TheVariants as Base
use Rattle.sy_spec.specs.declared.domain.AttrTree.{AttrTree}
use Rattle.sy_spec.specs.declared.contract.SpecTree.{SpecTree}
use Rattle.sy_domain.specs.declared.meaning.Sort.{Sort}
use Rattle.sy_domain.specs.declared.meaning.Sort.TheVariants as S
use Rattle.sy_domain.specs.declared.meaning.Meaning.{Meaning}
use Rattle.sy_domain.specs.declared.meaning.Meaning.TheVariants as M
use Rattle.sy_domain.specs.declared.types.TypeKind.{TypeKind}
use Rattle.sy_domain.specs.declared.types.TypeKind.TheVariants as Kind
use Rattle.sy_domain.specs.declared.types.Member.{Member}
use Rattle.sy_domain.specs.Names.{Table, meaning_in, same, all_names}
use Rattle.sy_chains.specs.Chains.{Bases, above, chain_end}
use Rattle.sy_domain.specs.Chains.{base_number}
use Rattle.sy_domain.specs.Attributes.{own}

-- the kind of type that a base of its own makes
abbrev pub kind_by : BaseTree → Option TypeKind
kind_by (Base.Role place) = Some Kind.Role
kind_by (Base.Asset place) = Some Kind.Asset
kind_by (Base.Event place) = Some Kind.Event
kind_by (Base.Named name) = None

-- the kind at the end of a chain
abbrev pub end_kind : Option TypeTree → Option TypeKind
end_kind (Some (AType.Derived name base attributes)) = kind_by base
end_kind (Some (AType.Enumeration name e)) = None
end_kind None = None

-- a type is an enumeration, or of the kind at the end of its isA chain: a role, an asset or an event. A type that is derived from an
-- enumeration or from a basic type is of no kind
abbrev pub kind_of : List TypeTree → Bases → ℕ × TypeTree → Option TypeKind
kind_of types bases (n, AType.Enumeration name e) = Some Kind.Enumeration
kind_of types bases (n, AType.Derived name base attributes) = end_kind (slice_get types (chain_end bases n))

-- the sort that a type's name stands for. A name that is no type is refused before this is asked
abbrev pub sort_or_number : Option Meaning → Sort
sort_or_number (Some (M.Type sort)) = sort
sort_or_number _ = S.Number

abbrev pub sort_named : Table → List ℕ → Sort
sort_named table name = sort_or_number (meaning_in table name)

-- an attribute as its type has it
abbrev pub member_of : Table → AttrTree → Member
member_of table a = record { env = is_some a.env; sort = sort_named table a.type_name.text }

-- some members by their names, and one more
abbrev pub put : Table → List (List ℕ × Member) → AttrTree → List (List ℕ × Member)
put table members a = insert_entry same members a.name.text (member_of table a)

-- the own members of a type by their names
abbrev pub own_members : Table → TypeTree → List (List ℕ × Member)
own_members table tree = fold (put table) [] (own tree)

-- what is known of types, each by its number
pub record Domain : Type 0 where
  pub table : Table
  pub bases : Bases
  pub kinds : List (Option TypeKind)
  pub owned : List (List (List ℕ × Member))

-- the same of a specification
abbrev pub domain_of : SpecTree → Domain
domain_of spec =
    let table = (all_names spec).table in
    let types = spec.domain.types in
    let bases = map (base_number table) types in
    record {
      table = table;
      bases = bases;
      kinds = map (kind_of types bases) (enumerate_from 0 types);
      owned = map (own_members table) types;
    }

-- the kind of the type with a number
abbrev pub kind_at : Domain → ℕ → Option TypeKind
kind_at domain n = option_and_then (λ kind. kind) (slice_get domain.kinds n)

-- the members that are there
abbrev pub some_members : Option (List (List ℕ × Member)) → List (List ℕ × Member)
some_members (Some members) = members
some_members None = []

-- the own members of the type with a number
abbrev pub owned_at : Domain → ℕ → List (List ℕ × Member)
owned_at domain n = some_members (slice_get domain.owned n)

-- those that a type inherits: the own ones of each type above it, the base's first
abbrev pub inherited : Domain → ℕ → List (List ℕ × Member)
inherited domain n = flat_map (owned_at domain) (above domain.bases n)

-- a member of the things of a sort, by its name: an own one of the type, or else one that it inherits
abbrev pub member_in : Domain → Sort → List ℕ → Option Member
member_in domain (S.Declared n) name = lookup (same name) (owned_at domain n ++ inherited domain n)
member_in domain _ name = None

-- all members of the things of a sort by their names, the last base's first and the own ones last
abbrev pub members_in : Domain → Sort → List (List ℕ × Member)
members_in domain (S.Declared n) = flat_map (owned_at domain) (reverse (above domain.bases n)) ++ owned_at domain n
members_in domain _ = []

-- a type is another one, or has it on its isA chain
abbrev pub reaches : Bases → ℕ → ℕ → Bool
reaches bases from to = nat_eq from to || list_any (nat_eq to) (above bases from)
