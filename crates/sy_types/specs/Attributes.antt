-- Which parts of the domain part break the rules of types.
use Rattle.std.specs.Prelude.{ℕ, Bool, true, false, not, ◌&&◌, ◌||◌, is_some, if◌then◌else◌, List, [], ◌++◌, Option, Some, None}
use Rattle.std.specs.List.{flat_map}
use Rattle.sy_base.specs.declared.refusal.Place.{Place}
use Rattle.sy_lex.specs.declared.written.Written.{Written}
use Rattle.sy_lex.specs.declared.keyword.Keyword.TheVariants as K
use Rattle.sy_lex.specs.Keywords.{keyword_text}
use Rattle.sy_spec.specs.declared.domain.TypeTree.{TypeTree}
use Rattle.sy_spec.specs.declared.domain.TypeTree.TheVariants as AType
use Rattle.sy_spec.specs.declared.domain.BaseTree.{BaseTree}
use Rattle.sy_spec.specs.declared.domain.BaseTree.TheVariants as Base
use Rattle.sy_spec.specs.declared.domain.AttrTree.{AttrTree}
use Rattle.sy_domain.specs.declared.failure.Failure.{Failure}
use Rattle.sy_domain.specs.declared.meaning.Sort.{Sort}
use Rattle.sy_domain.specs.declared.types.TypeKind.{TypeKind}
use Rattle.sy_domain.specs.Failures.{unless}
use Rattle.sy_domain.specs.Ontologies.{kind_at, sort_named}
use Rattle.sy_scope.specs.Scopes.{Things, is_value, is_role, is_asset, is_event, kind_of_sort}
use Rattle.sy_scope.specs.Tokens.{written}

-- the sort that the name of a type stands for
abbrev pub type_sort : Things → Written → Sort
type_sort s name = sort_named s.domain.table name.text

-- the sort is a role or an asset type
abbrev pub is_role_or_asset : Things → Sort → Bool
is_role_or_asset s sort = is_role (kind_of_sort s sort) || is_asset (kind_of_sort s sort)

-- an attribute of each happening of an event is one value. Any other attribute is one value too, or of an event also a role or an asset
abbrev pub fits_attribute : Things → Option TypeKind → Bool → Sort → Bool
fits_attribute s kind true sort = is_event kind && is_value s sort
fits_attribute s kind false sort = is_value s sort || (is_event kind && is_role_or_asset s sort)

-- the first token of an attribute: `Env`, where it stands, and else the name
abbrev pub first_of_attribute : Option Place → Written → Written
first_of_attribute (Some place) name = written (keyword_text K.Env) place
first_of_attribute None name = name

abbrev pub attribute_token : AttrTree → Written
attribute_token a = first_of_attribute a.env a.name

-- an attribute of a type of a kind
abbrev pub wrong_attribute : Things → Option TypeKind → AttrTree → List Failure
wrong_attribute s kind a = unless (fits_attribute s kind (is_some a.env) (type_sort s a.type_name)) (attribute_token a)

-- a base that is an enumeration or a basic type
abbrev pub wrong_base : Things → BaseTree → List Failure
wrong_base s (Base.Named name) = unless (not (is_value s (type_sort s name))) name
wrong_base s _ = []

-- the base and the own attributes of a numbered type
abbrev pub wrong_type : Things → ℕ × TypeTree → List Failure
wrong_type s (n, AType.Enumeration name e) = []
wrong_type s (n, AType.Derived name base attributes) =
    wrong_base s base ++ flat_map (wrong_attribute s (kind_at s.domain n)) attributes
