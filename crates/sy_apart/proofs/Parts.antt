-- The names of a specification by its parts: those of the types, parameters, declarations, obligations, surviving obligations and powers.
use Rattle.std.proofs.Common.{◌≡◌, ℕ, ◌+◌, Bool, true, not, ◌&&◌, List, [], ◌∷◌, ◌++◌, map, refl, sym, ap, ◌∙◌, append_assoc}
use Rattle.std.specs.List.{enumerate_from, filter, flat_map, list_all, list_any}
use Rattle.std.proofs.lemmas.List.{map-append}
use Rattle.sy_words.specs.declared.form.Form.TheVariants as Form
use Rattle.sy_lex.specs.declared.written.Written.{Written}
use Rattle.sy_spec.specs.declared.domain.TypeTree.{TypeTree}
use Rattle.sy_spec.specs.declared.domain.TypeTree.TheVariants as AType
use Rattle.sy_spec.specs.declared.contract.DeclTree.{DeclTree}
use Rattle.sy_spec.specs.declared.contract.SpecTree.{SpecTree}
use Rattle.sy_core.specs.Soundness.{are_distinct}
use Rattle.sy_core.proofs.Listing.{and_right}
use Rattle.sy_domain.specs.declared.meaning.Meaning.{Meaning}
use Rattle.sy_domain.specs.declared.meaning.Meaning.TheVariants as M
use Rattle.sy_domain.specs.Names.{Named, basic, declared, each_named, named, names_of_type, no_names, same}
use Rattle.sy_apart.specs.Apart.{DeclaresOnce, constant_names, declaration_names, declared_texts, position_names, texts}
use Rattle.sy_apart.proofs.Distinct.{distinct_kept, distinct_left, distinct_right}
use Rattle.sy_apart.proofs.Fresh.{AreFresh, all_fresh, fresh_are_distinct}

-- the texts of the names of some things are those of the things
texts_from : {A : Type 0} (name : A → Written) (meaning : ℕ → Meaning) (k : ℕ) (things : List A) → texts (map (λ p. named (name p.1) (meaning p.0)) (enumerate_from k things)) ≡ map (λ x. (name x).text) things
texts_from name meaning k [] = refl
texts_from name meaning k (x ∷ things) = ap (λ l. (name x).text ∷ l) (texts_from name meaning (k + 1) things)

texts_of_each : {A : Type 0} (name : A → Written) (meaning : ℕ → Meaning) (things : List A) → texts (each_named name meaning things) ≡ map (λ x. (name x).text) things
texts_of_each name meaning things = texts_from name meaning 0 things

texts_append : (xs ys : List Named) → texts (xs ++ ys) ≡ texts xs ++ texts ys
texts_append xs ys = map-append (λ (n : Named). n.name.text) xs ys

-- where the names of types are distinct, the constants of each type are
constants_apart : (k : ℕ) (types : List TypeTree) → are_distinct (texts (flat_map (λ p. names_of_type p.0 p.1) (enumerate_from k types))) ≡ true → list_all (λ tree. are_distinct (constant_names tree)) types ≡ true
constants_apart k [] h = refl
constants_apart k (tree ∷ types) h =
    let here = names_of_type k tree in
    let later = flat_map (λ (p : ℕ × TypeTree). names_of_type p.0 p.1) (enumerate_from (k + 1) types) in
    let both = sym (ap are_distinct (texts_append here later)) ∙ h in
    let first = of_type tree (distinct_left (texts here) (texts later) both) in
    let rest = constants_apart (k + 1) types (distinct_right (texts here) (texts later) both) in
    λ j. first j && rest j
  where
    of_type : (tree : TypeTree) → are_distinct (texts (names_of_type k tree)) ≡ true → are_distinct (constant_names tree) ≡ true
    of_type (AType.Enumeration name e) h =
        let names = texts (each_named (λ (c : Written). c) (λ i. M.Constant k i) e.constants) in
        ap are_distinct (sym (texts_of_each (λ (c : Written). c) (λ i. M.Constant k i) e.constants))
        ∙ and_right (not (list_any (same name.text) names)) (are_distinct names) h
    of_type (AType.Derived name base attributes) h = refl

module _ (spec : SpecTree) where
  abbrev pub type_names : List Named
  type_names = flat_map (λ p. names_of_type p.0 p.1) (enumerate_from 0 spec.domain.types)

  abbrev pub parameters : List Named
  parameters = each_named (λ p. p.name) (λ i. M.Parameter i) spec.contract.parameters

  abbrev pub declarations : List Named
  declarations = each_named (λ d. d.name) (λ i. M.Declaration i) spec.contract.declarations

  abbrev pub obligations : List Named
  obligations = each_named (λ o. o.name) (λ i. M.Position Form.Obligation i) spec.contract.obligations

  abbrev pub surviving : List Named
  surviving = each_named (λ o. o.name) (λ i. M.Position Form.Surviving i) spec.contract.surviving

  abbrev pub powers : List Named
  powers = each_named (λ p. p.name) (λ i. M.Position Form.Power i) spec.contract.powers

  module _ (apart : DeclaresOnce spec) where
    pub fresh_names : AreFresh basic (declared spec)
    fresh_names = (all_fresh (declared spec) no_names apart).0

    pub distinct_names : are_distinct (declared_texts spec) ≡ true
    distinct_names = fresh_are_distinct (declared spec) basic fresh_names

    -- the parts in their order
    parted : texts (declared spec) ≡ texts type_names ++ texts parameters ++ texts declarations ++ texts obligations ++ texts surviving ++ texts powers
    parted =
        texts_append (type_names ++ parameters ++ declarations ++ obligations ++ surviving) powers
        ∙ ap (λ l. l ++ texts powers) (texts_append (type_names ++ parameters ++ declarations ++ obligations) surviving)
        ∙ ap (λ l. l ++ texts surviving ++ texts powers) (texts_append (type_names ++ parameters ++ declarations) obligations)
        ∙ ap (λ l. l ++ texts obligations ++ texts surviving ++ texts powers) (texts_append (type_names ++ parameters) declarations)
        ∙ ap (λ l. l ++ texts declarations ++ texts obligations ++ texts surviving ++ texts powers) (texts_append type_names parameters)

    whole : are_distinct (texts type_names ++ texts parameters ++ texts declarations ++ texts obligations ++ texts surviving ++ texts powers) ≡ true
    whole = sym (ap are_distinct parted) ∙ distinct_names

    -- up to the declarations, and behind them
    abbrev front : List (List ℕ)
    front = texts type_names ++ texts parameters ++ texts declarations

    positions_behind : texts type_names ++ texts parameters ++ texts declarations ++ texts obligations ++ texts surviving ++ texts powers ≡ front ++ (texts obligations ++ texts surviving ++ texts powers)
    positions_behind =
        ap (λ l. l ++ texts powers) (append_assoc front (texts obligations) (texts surviving))
        ∙ append_assoc front (texts obligations ++ texts surviving) (texts powers)

    front_distinct : are_distinct front ≡ true
    front_distinct =
        distinct_left front (texts obligations)
        (distinct_left (front ++ texts obligations) (texts surviving)
        (distinct_left (front ++ texts obligations ++ texts surviving) (texts powers) whole))

    pub distinct_positions : are_distinct (position_names spec.contract) ≡ true
    distinct_positions =
        let behind = distinct_right front (texts obligations ++ texts surviving ++ texts powers) (sym (ap are_distinct positions_behind) ∙ whole) in
        let first = texts_of_each (λ o. o.name) (λ i. M.Position Form.Obligation i) spec.contract.obligations in
        let second = texts_of_each (λ o. o.name) (λ i. M.Position Form.Surviving i) spec.contract.surviving in
        let third = texts_of_each (λ p. p.name) (λ i. M.Position Form.Power i) spec.contract.powers in
        ap are_distinct (sym (λ j. first j ++ second j ++ third j)) ∙ behind

    pub distinct_declarations : (test : DeclTree → Bool) → are_distinct (declaration_names (filter test spec.contract.declarations)) ≡ true
    distinct_declarations test =
        distinct_kept test (λ d. d.name.text) spec.contract.declarations
        (ap are_distinct (sym (texts_of_each (λ d. d.name) (λ i. M.Declaration i) spec.contract.declarations))
        ∙ distinct_right (texts type_names ++ texts parameters) (texts declarations) front_distinct)

    pub distinct_constants : list_all (λ tree. are_distinct (constant_names tree)) spec.domain.types ≡ true
    distinct_constants =
        constants_apart 0 spec.domain.types
        (distinct_left (texts type_names) (texts parameters)
        (distinct_left (texts type_names ++ texts parameters) (texts declarations) front_distinct))
