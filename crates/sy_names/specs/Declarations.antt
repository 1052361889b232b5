-- The names in declarations that aren't declared for their place. A declaration's terms may name the declarations before it, so as many as
-- its own number says.
use Rattle.std.specs.Prelude.{ℕ, List, ◌++◌, Some}
use Rattle.std.specs.List.{flat_map}
use Rattle.sy_spec.specs.declared.contract.DeclTree.{DeclTree}
use Rattle.sy_spec.specs.declared.contract.GiveTree.{GiveTree}
use Rattle.sy_domain.specs.declared.failure.Failure.{Failure}
use Rattle.sy_domain.specs.declared.meaning.Sort.{Sort}
use Rattle.sy_scope.specs.Scopes.{Things, declaration_sort}
use Rattle.sy_names.specs.Paths.{unknown_attribute, unknown_in_rhs}

-- in what a declaration of a type gives to an attribute: the attribute's name, and the names of the term
abbrev pub unknown_in_give : Things → ℕ → Sort → GiveTree → List Failure
unknown_in_give s visible sort give =
    unknown_attribute s (Some sort) give.name
    ++ unknown_in_rhs s visible give.value

-- in a numbered declaration
abbrev pub unknown_in_declaration : Things → ℕ × DeclTree → List Failure
unknown_in_declaration s p = flat_map (unknown_in_give s p.0 (declaration_sort s.domain.table p.1)) p.1.gives
