-- The names of a specification, in the order of their places, and what each stands for. Types, constants, parameters, declarations and positions
-- share one space of names; the attributes of each type are a space of their own.
use Rattle.std.specs.Prelude.{ℕ, Bool, if◌then◌else◌, is_some, nat_eq, codes, List, [], ◌∷◌, ◌++◌, map, Option}
use Rattle.std.specs.Cmp.Lexicographic.{pointwise}
use Rattle.std.specs.List.{fold, flat_map, enumerate_from, list_any}
use Rattle.std.specs.Map.{lookup}
use Rattle.sy_words.specs.declared.form.Form.{Form}
use Rattle.sy_words.specs.declared.form.Form.TheVariants as Form
use Rattle.sy_lex.specs.declared.written.Written.{Written}
use Rattle.sy_spec.specs.declared.domain.TypeTree.{TypeTree}
use Rattle.sy_spec.specs.declared.domain.TypeTree.TheVariants as AType
use Rattle.sy_spec.specs.declared.domain.AttrTree.{AttrTree}
use Rattle.sy_spec.specs.declared.contract.SpecTree.{SpecTree}
use Rattle.sy_domain.specs.declared.failure.Failure.{Failure}
use Rattle.sy_domain.specs.declared.meaning.Sort.TheVariants as Sort
use Rattle.sy_domain.specs.declared.meaning.Meaning.{Meaning}
use Rattle.sy_domain.specs.declared.meaning.Meaning.TheVariants as M
use Rattle.sy_domain.specs.declared.names.Slot.{Slot}
use Rattle.sy_domain.specs.declared.names.Slot.TheVariants as Slot
use Rattle.sy_domain.specs.Failures.{at}

-- two names are the same
abbrev pub same : List ℕ → List ℕ → Bool
same = pointwise nat_eq

-- a name where it is declared, and what it stands for
pub record Named : Type 0 where
  pub name : Written
  pub meaning : Meaning

abbrev pub named : Written → Meaning → Named
named name meaning = record { name = name; meaning = meaning }

-- the names of some things, each of which stands for what its number gives
abbrev pub each_named : {A : Type 0} → (A → Written) → (ℕ → Meaning) → List A → List Named
each_named name meaning things = map (λ p. named (name p.1) (meaning p.0)) (enumerate_from 0 things)

-- a type's name, and the constants of an enumeration
abbrev pub names_of_type : ℕ → TypeTree → List Named
names_of_type n (AType.Enumeration name e) =
    named name (M.Type (Sort.Declared n)) ∷ each_named (λ c. c) (λ i. M.Constant n i) e.constants
names_of_type n (AType.Derived name base attributes) = named name (M.Type (Sort.Declared n)) ∷ []

-- the names that share one space, in the order of their places
abbrev pub declared : SpecTree → List Named
declared spec =
    flat_map (λ p. names_of_type p.0 p.1) (enumerate_from 0 spec.domain.types)
    ++ each_named (λ p. p.name) (λ i. M.Parameter i) spec.contract.parameters
    ++ each_named (λ d. d.name) (λ i. M.Declaration i) spec.contract.declarations
    ++ each_named (λ o. o.name) (λ i. M.Position Form.Obligation i) spec.contract.obligations
    ++ each_named (λ o. o.name) (λ i. M.Position Form.Surviving i) spec.contract.surviving
    ++ each_named (λ p. p.name) (λ i. M.Position Form.Power i) spec.contract.powers

-- names, and what each stands for
abbrev pub Table : Type 0
Table = List (List ℕ × Meaning)

-- the basic types
abbrev pub basic : Table
basic =
    (codes "Number", M.Type Sort.Number) ∷ (codes "Text", M.Type Sort.Text)
    ∷ (codes "Boolean", M.Type Sort.Boolean) ∷ (codes "Date", M.Type Sort.Date) ∷ []

abbrev pub entry : Named → List ℕ × Meaning
entry n = (n.name.text, n.meaning)

-- what a name stands for in a table
abbrev pub meaning_in : Table → List ℕ → Option Meaning
meaning_in table name = lookup (same name) table

-- what the names stand for that have been declared, and where one was declared that was there already
pub record Naming : Type 0 where
  pub table : Table
  pub repeated : List Failure

-- a name stands for what it is declared as first
abbrev pub declare : Naming → Named → Naming
declare naming n =
    if is_some (meaning_in naming.table n.name.text)
    then record { table = naming.table; repeated = naming.repeated ++ at n.name ∷ [] }
    else record { table = naming.table ++ entry n ∷ []; repeated = naming.repeated }

-- the basic types are there from the start
abbrev pub no_names : Naming
no_names = record { table = basic; repeated = [] }

-- what the names of a specification stand for
abbrev pub naming : SpecTree → Naming
naming spec = fold declare no_names (declared spec)

-- what the name with a number stands for, by where it is declared
abbrev pub meaning_at : Slot → ℕ → Meaning
meaning_at (Slot.Constant n) = λ i. M.Constant n i
meaning_at Slot.Parameter = λ i. M.Parameter i
meaning_at Slot.Declaration = λ i. M.Declaration i
meaning_at (Slot.Position form) = λ i. M.Position form i

-- the names of a list that an earlier one has already, or that are known before it
abbrev pub repeats : List (List ℕ) → List Written → List Failure
repeats known [] = []
repeats known (n ∷ ns) =
    if list_any (same n.text) known then at n ∷ repeats known ns else repeats (known ++ n.text ∷ []) ns

-- the attributes that repeat an own one of their type
abbrev pub repeated_attributes : TypeTree → List Failure
repeated_attributes (AType.Enumeration name e) = []
repeated_attributes (AType.Derived name base attributes) = repeats [] (map (λ a. a.name) attributes)

-- the naming of a specification, with the attributes that repeat an own one of their type
abbrev pub all_names : SpecTree → Naming
all_names spec =
    let names = naming spec in
    record {
      table = names.table;
      repeated = names.repeated ++ flat_map repeated_attributes spec.domain.types;
    }
