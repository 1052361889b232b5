-- Which parameters and declarations break the rules of types.
use Rattle.std.specs.Prelude.{ℕ, Bool, false, ◌||◌, List, ◌++◌, map, Option, Some, None}
use Rattle.std.specs.List.{flat_map, list_any, list_all}
use Rattle.sy_spec.specs.declared.contract.ParamTree.{ParamTree}
use Rattle.sy_spec.specs.declared.contract.DeclTree.{DeclTree}
use Rattle.sy_spec.specs.declared.contract.GiveTree.{GiveTree}
use Rattle.sy_domain.specs.declared.failure.Failure.{Failure}
use Rattle.sy_domain.specs.declared.meaning.Sort.{Sort}
use Rattle.sy_domain.specs.declared.meaning.Sort.TheVariants as S
use Rattle.sy_domain.specs.declared.types.Member.{Member}
use Rattle.sy_domain.specs.Failures.{unless}
use Rattle.sy_domain.specs.Names.{same}
use Rattle.sy_domain.specs.Ontologies.{members_in, reaches}
use Rattle.sy_scope.specs.Scopes.{Things, is_value, is_event, kind_of_sort, plain_sort}
use Rattle.sy_scope.specs.Sorts.{rhs_sort}
use Rattle.sy_types.specs.Attributes.{type_sort, is_role_or_asset}
use Rattle.sy_types.specs.Comparisons.{is_same_sort}
use Rattle.sy_types.specs.Terms.{wrong_rhs}

-- a parameter is one value, a role or an asset
abbrev pub fits_parameter : Things → Sort → Bool
fits_parameter s sort = is_value s sort || is_role_or_asset s sort

abbrev pub wrong_parameter : Things → ParamTree → List Failure
wrong_parameter s p = unless (fits_parameter s (type_sort s p.type_name)) p.name

-- a declaration is a role, an asset or an event
abbrev pub fits_declaration : Things → Sort → Bool
fits_declaration s sort = is_role_or_asset s sort || is_event (kind_of_sort s sort)

-- what has one sort can be given where another is wanted: they are the same, or the chain of the one reaches the other
abbrev pub is_given_as : Things → Sort → Sort → Bool
is_given_as s (S.Declared from) (S.Declared to) = reaches s.domain.bases from to
is_given_as s from to = is_same_sort from to

-- the same of what is given to the attribute that is there
abbrev pub fits_give : Things → Option Sort → Option Sort → Bool
fits_give s (Some wanted) (Some given) = is_given_as s given wanted
fits_give s _ _ = false

-- what a declaration of a sort gives to an attribute, and the terms in it. The first declarations may be named, so many as stand before it
abbrev pub wrong_give : Things → ℕ → Sort → GiveTree → List Failure
wrong_give s visible sort give =
    wrong_rhs s visible give.value
    ++ unless (fits_give s (plain_sort s sort give.name.text) (rhs_sort s visible give.value)) give.name

-- an attribute has one of some names, or each happening gives its value
abbrev pub is_among : List (List ℕ) → List ℕ × Member → Bool
is_among names member = member.1.env || list_any (same member.0) names

-- the names of the attributes that are given
abbrev pub given_names : List GiveTree → List (List ℕ)
given_names gives = map (λ give. give.name.text) gives

-- a numbered declaration: its type, what it gives, and whether it gives all that it has to
abbrev pub wrong_declaration : Things → ℕ × DeclTree → List Failure
wrong_declaration s p =
    let declaration = p.1 in
    let sort = type_sort s declaration.type_name in
    unless (fits_declaration s sort) declaration.name
    ++ flat_map (wrong_give s p.0 sort) declaration.gives
    ++ unless (list_all (is_among (given_names declaration.gives)) (members_in s.domain sort)) declaration.name
