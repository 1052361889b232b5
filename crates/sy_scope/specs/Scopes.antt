-- What the names of a specification stand for where a term, an event or a target stands.
use Rattle.std.specs.Prelude.{ℕ, Bool, true, false, not, nat_lt, is_some, if◌then◌else◌, List, map, slice_get, Option, Some, None, option_and_then}
use Rattle.sy_words.specs.declared.form.Form.{Form}
use Rattle.sy_tree.specs.declared.term.PathTree.{PathTree}
use Rattle.sy_tree.specs.declared.term.PathTree.TheVariants as Path
use Rattle.sy_spec.specs.declared.contract.ParamTree.{ParamTree}
use Rattle.sy_spec.specs.declared.contract.DeclTree.{DeclTree}
use Rattle.sy_spec.specs.declared.contract.SpecTree.{SpecTree}
use Rattle.sy_domain.specs.declared.meaning.Sort.{Sort}
use Rattle.sy_domain.specs.declared.meaning.Sort.TheVariants as S
use Rattle.sy_domain.specs.declared.meaning.Meaning.{Meaning}
use Rattle.sy_domain.specs.declared.meaning.Meaning.TheVariants as M
use Rattle.sy_domain.specs.declared.types.TypeKind.{TypeKind}
use Rattle.sy_domain.specs.declared.types.TypeKind.TheVariants as Kind
use Rattle.sy_domain.specs.declared.types.Member.{Member}
use Rattle.sy_domain.specs.Names.{Table, meaning_in}
use Rattle.sy_domain.specs.Ontologies.{Domain, domain_of, kind_at, member_in, sort_named}

-- the types of a specification, and the sorts of its parameters and declarations, each by its number
pub record Things : Type 0 where
  pub domain : Domain
  pub parameters : List Sort
  pub declarations : List Sort

abbrev pub parameter_sort : Table → ParamTree → Sort
parameter_sort table p = sort_named table p.type_name.text

abbrev pub declaration_sort : Table → DeclTree → Sort
declaration_sort table d = sort_named table d.type_name.text

-- the things of a specification
abbrev pub things_of : SpecTree → Things
things_of spec =
    let domain = domain_of spec in
    record {
      domain = domain;
      parameters = map (parameter_sort domain.table) spec.contract.parameters;
      declarations = map (declaration_sort domain.table) spec.contract.declarations;
    }

-- what a name stands for
abbrev pub meaning_of : Things → List ℕ → Option Meaning
meaning_of s name = meaning_in s.domain.table name

-- the sort of a parameter, of a constant, or of one of so many first declarations
abbrev pub sort_of_meaning : Things → ℕ → Option Meaning → Option Sort
sort_of_meaning s visible (Some (M.Parameter i)) = slice_get s.parameters i
sort_of_meaning s visible (Some (M.Constant of i)) = Some (S.Declared of)
sort_of_meaning s visible (Some (M.Declaration i)) = if nat_lt i visible then slice_get s.declarations i else None
sort_of_meaning s visible _ = None

-- the same of what a name stands for
abbrev pub thing_sort : Things → ℕ → List ℕ → Option Sort
thing_sort s visible name = sort_of_meaning s visible (meaning_of s name)

-- the sort of an attribute that isn't Env, and so has one value
abbrev pub sort_unless_env : Option Member → Option Sort
sort_unless_env (Some member) = if member.env then None else Some member.sort
sort_unless_env None = None

-- the same of an attribute of the things of a sort
abbrev pub plain_sort : Things → Sort → List ℕ → Option Sort
plain_sort s sort name = sort_unless_env (member_in s.domain sort name)

-- the sort of an attribute of which each happening gives a value
abbrev pub sort_if_env : Option Member → Option Sort
sort_if_env (Some member) = if member.env then Some member.sort else None
sort_if_env None = None

-- the same of an attribute of the things of a sort
abbrev pub env_sort : Things → Sort → List ℕ → Option Sort
env_sort s sort name = sort_if_env (member_in s.domain sort name)

-- the sort of an attribute of the thing that is there
abbrev pub attribute_sort : Things → List ℕ → Option Sort → Option Sort
attribute_sort s name None = None
attribute_sort s name (Some sort) = plain_sort s sort name

-- the sort of what a path stands for: a thing, an attribute of one, or an attribute of such an attribute
abbrev pub path_sort : Things → ℕ → PathTree → Option Sort
path_sort s visible (Path.Name x) = thing_sort s visible x.text
path_sort s visible (Path.Attribute x a) = attribute_sort s a.text (thing_sort s visible x.text)
path_sort s visible (Path.Inner x a b) = attribute_sort s b.text (attribute_sort s a.text (thing_sort s visible x.text))

-- the kind of the type of a sort: none for a basic type
abbrev pub kind_of_sort : Things → Sort → Option TypeKind
kind_of_sort s (S.Declared n) = kind_at s.domain n
kind_of_sort s _ = None

-- the kind is that of roles, of assets, of events or of enumerations
abbrev pub is_role : Option TypeKind → Bool
is_role (Some Kind.Role) = true
is_role _ = false

abbrev pub is_asset : Option TypeKind → Bool
is_asset (Some Kind.Asset) = true
is_asset _ = false

abbrev pub is_event : Option TypeKind → Bool
is_event (Some Kind.Event) = true
is_event _ = false

abbrev pub is_enumeration : Option TypeKind → Bool
is_enumeration (Some Kind.Enumeration) = true
is_enumeration _ = false

-- a thing of the sort is one value: the sort is a basic type or an enumeration
abbrev pub is_value : Things → Sort → Bool
is_value s (S.Declared n) = is_enumeration (kind_at s.domain n)
is_value s _ = true

-- the sort, where it is an event type
abbrev pub if_event : Things → Option Sort → Option Sort
if_event s (Some sort) = if is_event (kind_of_sort s sort) then Some sort else None
if_event s None = None

-- the sort of the declaration that a name stands for
abbrev pub sort_of_declaration : Things → Option Meaning → Option Sort
sort_of_declaration s (Some (M.Declaration i)) = slice_get s.declarations i
sort_of_declaration s _ = None

-- the type of the declared event that a name stands for
abbrev pub event_sort : Things → List ℕ → Option Sort
event_sort s name = if_event s (sort_of_declaration s (meaning_of s name))

-- the form of the position that a name stands for
abbrev pub form_if_position : Option Meaning → Option Form
form_if_position (Some (M.Position form i)) = Some form
form_if_position _ = None

abbrev pub form_named : Things → List ℕ → Option Form
form_named s name = form_if_position (meaning_of s name)
