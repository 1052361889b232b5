-- What is known of each declaration: what it gives to its attributes, by what is known of the declarations before it.
use Rattle.std.specs.Prelude.{ℕ, List, [], ◌∷◌, ◌++◌, Option, Some, None}
use Rattle.std.specs.List.{fold}
use Rattle.indexmap.specs.IndexMap.{insert_entry}
use Rattle.sy_base.specs.declared.time.TimeUnit.{TimeUnit}
use Rattle.sy_spec.specs.declared.contract.SpecTree.{SpecTree}
use Rattle.sy_spec.specs.declared.contract.DeclTree.{DeclTree}
use Rattle.sy_spec.specs.declared.contract.GiveTree.{GiveTree}
use Rattle.sy_domain.specs.Names.{same}
use Rattle.sy_scope.specs.Scopes.{Things}
use Rattle.sy_given.specs.declared.known.Bound.{Bound}
use Rattle.sy_terms.specs.declared.item.Item.{Item}
use Rattle.sy_terms.specs.Items.{Environment}
use Rattle.sy_terms.specs.Terms.{rhs_item}

-- items by their names, and one more of them, where it is there
abbrev pub put : List (List ℕ × Item) → List ℕ → Option Item → List (List ℕ × Item)
put items name (Some item) = insert_entry same items name item
put items name None = items

-- the same of what an attribute is given
abbrev pub put_give : Things → Environment → List (List ℕ × Item) → GiveTree → List (List ℕ × Item)
put_give s e items give = put items give.name.text (rhs_item s e give.value)

-- each attribute that a declaration gives, where what it gives has a value
abbrev pub declaration_items : Things → Environment → DeclTree → List (List ℕ × Item)
declaration_items s e d = fold (put_give s e) [] d.gives

-- what is known with one more declaration
abbrev pub declare : Things → Environment → DeclTree → Environment
declare s e d =
    record { unit = e.unit; parameters = e.parameters; declarations = e.declarations ++ declaration_items s e d ∷ [] }

-- what is known before any declaration
abbrev pub bound_alone : TimeUnit → List Bound → Environment
bound_alone unit parameters = record { unit = unit; parameters = parameters; declarations = [] }

-- what is known with all of them
abbrev pub environment : Things → TimeUnit → List Bound → List DeclTree → Environment
environment s unit parameters declarations = fold (declare s) (bound_alone unit parameters) declarations

-- what is known where the parameters of a specification are bound
abbrev pub environment_of : Things → SpecTree → List Bound → Environment
environment_of s spec parameters = environment s spec.contract.unit.unit parameters spec.contract.declarations
