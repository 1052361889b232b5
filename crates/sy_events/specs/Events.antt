-- The events of a deed: the declared ones in the order of the text, each with the attributes of which its happenings give values.
use Rattle.std.specs.Prelude.{ℕ, Bool, if◌then◌else◌, List, [], ◌∷◌, map, filter, slice_get, Option, Some, None, option_map, option_and_then}
use Rattle.std.specs.List.{fold}
use Rattle.indexmap.specs.IndexMap.{insert_entry}
use Rattle.sy_core.specs.declared.value.ValueKind.{ValueKind}
use Rattle.sy_core.specs.declared.value.ValueKind.TheVariants as K
use Rattle.sy_core.specs.declared.deed.AttrDecl.{AttrDecl}
use Rattle.sy_core.specs.declared.deed.EventDecl.{EventDecl}
use Rattle.sy_spec.specs.declared.contract.DeclTree.{DeclTree}
use Rattle.sy_domain.specs.declared.meaning.Sort.{Sort}
use Rattle.sy_domain.specs.declared.meaning.Sort.TheVariants as S
use Rattle.sy_domain.specs.declared.types.Member.{Member}
use Rattle.sy_domain.specs.Names.{same}
use Rattle.sy_domain.specs.Ontologies.{Domain, members_in}
use Rattle.sy_scope.specs.Scopes.{Things, declaration_sort, is_event, kind_of_sort}
use Rattle.sy_events.specs.Numbers.{numbers_from}

-- the number that is there, if one is
abbrev pub number_at : List (Option ℕ) → ℕ → Option ℕ
number_at numbers n = option_and_then (λ number. number) (slice_get numbers n)

-- the kind of the values of a sort, by the numbers of the enumerations: none of a role, an asset or an event
abbrev pub kind_with : List (Option ℕ) → Sort → Option ValueKind
kind_with numbers S.Number = Some K.Number
kind_with numbers S.Text = Some K.Text
kind_with numbers S.Boolean = Some K.Boolean
kind_with numbers S.Date = Some K.Date
kind_with numbers (S.Declared n) = option_map (λ e. K.Choice e) (number_at numbers n)

-- kinds of attributes by their names, and one more
abbrev pub put_kind : List (List ℕ × ValueKind) → List ℕ → Option ValueKind → List (List ℕ × ValueKind)
put_kind kinds name (Some kind) = insert_entry same kinds name kind
put_kind kinds name None = kinds

-- the same of a member, where each happening gives its value
abbrev pub put_member : List (Option ℕ) → List (List ℕ × ValueKind) → List ℕ × Member → List (List ℕ × ValueKind)
put_member numbers kinds member =
    if member.1.env then put_kind kinds member.0 (kind_with numbers member.1.sort) else kinds

-- the attributes of which each happening of an event of a sort gives a value, with their kinds: the inherited ones first
abbrev pub attribute_kinds : Domain → List (Option ℕ) → Sort → List (List ℕ × ValueKind)
attribute_kinds domain numbers sort = fold (put_member numbers) [] (members_in domain sort)

-- an attribute with its kind
abbrev pub attribute : List ℕ × ValueKind → AttrDecl
attribute p = record { name = p.0; kind = p.1 }

-- a declaration is that of an event
abbrev pub declares_event : Things → DeclTree → Bool
declares_event s d = is_event (kind_of_sort s (declaration_sort s.domain.table d))

-- the attributes of a declared event
abbrev pub kinds_of_event : Things → List (Option ℕ) → DeclTree → List (List ℕ × ValueKind)
kinds_of_event s numbers d = attribute_kinds s.domain numbers (declaration_sort s.domain.table d)

-- a declared event
abbrev pub event_of : Things → List (Option ℕ) → DeclTree → EventDecl
event_of s numbers d = record { name = d.name.text; attrs = map attribute (kinds_of_event s numbers d) }

-- the declarations of events
abbrev pub event_declarations : Things → List DeclTree → List DeclTree
event_declarations s declarations = filter (declares_event s) declarations

-- the numbers of the declared events among themselves, by their numbers among the declarations
abbrev pub event_numbers : Things → List DeclTree → List (Option ℕ)
event_numbers s declarations = numbers_from 0 (map (declares_event s) declarations)
