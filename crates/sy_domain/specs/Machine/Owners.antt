-- The types that alone have own attributes of a name.
use Rattle.std.specs.Prelude.{ℕ, Bool, false, if◌then◌else◌, nat_eq, List, [], fold, Option, Some, None}
use Rattle.std.specs.List.{enumerate_from}
use Rattle.std.specs.Map.{lookup}
use Rattle.indexmap.specs.IndexMap.{insert_entry}
use Rattle.sy_spec.specs.declared.domain.TypeTree.{TypeTree}
use Rattle.sy_spec.specs.declared.domain.AttrTree.{AttrTree}
use Rattle.sy_domain.specs.Attributes.{own}
use Rattle.sy_domain.specs.Names.{same}

-- the only type that owns each name, or none where several do
abbrev pub Owners : Type 0
Owners = List (List ℕ × Option ℕ)

-- that of a name, once one more type owns it
abbrev pub owner_with : Option (Option ℕ) → ℕ → Option ℕ
owner_with None n = Some n
owner_with (Some (Some m)) n = if nat_eq m n then Some n else None
owner_with (Some None) n = None

-- the owners, once one more type has an attribute
abbrev pub add_owner : ℕ → Owners → AttrTree → Owners
add_owner n owners a = insert_entry same owners a.name.text (owner_with (lookup (same a.name.text) owners) n)

-- the same of all own attributes of a numbered type
abbrev pub add_owners : Owners → ℕ × TypeTree → Owners
add_owners owners p = fold (add_owner p.0) owners (own p.1)

-- the owners of the names of all types
abbrev pub owners_of : List TypeTree → Owners
owners_of types = fold add_owners [] (enumerate_from 0 types)

-- a type is the only owner
abbrev pub is_owner : Option (Option ℕ) → ℕ → Bool
is_owner (Some (Some m)) n = nat_eq m n
is_owner _ n = false

-- the same of the name of an attribute
abbrev pub is_only : Owners → ℕ → AttrTree → Bool
is_only owners n a = is_owner (lookup (same a.name.text) owners) n
