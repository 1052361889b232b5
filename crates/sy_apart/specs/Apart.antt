-- The names of a specification of which none is declared twice.
use Rattle.std.specs.Prelude.{◌≡◌, ℕ, List, [], ◌++◌, map}
use Rattle.sy_lex.specs.declared.written.Written.{Written}
use Rattle.sy_spec.specs.declared.domain.TypeTree.{TypeTree}
use Rattle.sy_spec.specs.declared.domain.TypeTree.TheVariants as AType
use Rattle.sy_spec.specs.declared.contract.ContractTree.{ContractTree}
use Rattle.sy_spec.specs.declared.contract.DeclTree.{DeclTree}
use Rattle.sy_spec.specs.declared.contract.SpecTree.{SpecTree}
use Rattle.sy_domain.specs.Names.{Named, declared, naming}

-- no name that shares the one space is declared twice, or is a basic type
abbrev pub DeclaresOnce : SpecTree → Type 0
DeclaresOnce spec = (naming spec).repeated ≡ []

-- the texts of some names, and of those of a specification
abbrev pub texts : List Named → List (List ℕ)
texts names = map (λ n. n.name.text) names

abbrev pub declared_texts : SpecTree → List (List ℕ)
declared_texts spec = texts (declared spec)

-- the names of the obligations, then of the surviving obligations, then of the powers
abbrev pub position_names : ContractTree → List (List ℕ)
position_names contract =
    map (λ o. o.name.text) contract.obligations
    ++ map (λ o. o.name.text) contract.surviving
    ++ map (λ p. p.name.text) contract.powers

-- the names of some declarations
abbrev pub declaration_names : List DeclTree → List (List ℕ)
declaration_names declarations = map (λ d. d.name.text) declarations

-- the constants of a type, and their names; only an enumeration has some
abbrev pub constants_of : TypeTree → List Written
constants_of (AType.Enumeration name e) = e.constants
constants_of (AType.Derived name base attributes) = []

abbrev pub constant_names : TypeTree → List (List ℕ)
constant_names tree = map (λ c. c.text) (constants_of tree)
