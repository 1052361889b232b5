-- Where the names are apart, each stands for what it is declared as.
use Rattle.std.proofs.Common.{◌≡◌, ℕ, zero, suc, ◌+◌, List, [], ◌∷◌, ◌++◌, map, Some, slice_get, inl, inr, refl, ap, ◌∙◌, subst, arith}
use Rattle.std.specs.List.{enumerate_from, flat_map}
use Rattle.sy_words.specs.declared.form.Form.TheVariants as Form
use Rattle.sy_lex.specs.declared.written.Written.{Written}
use Rattle.sy_spec.specs.declared.contract.DeclTree.{DeclTree}
use Rattle.sy_spec.specs.declared.contract.ParamTree.{ParamTree}
use Rattle.sy_spec.specs.declared.contract.SpecTree.{SpecTree}
use Rattle.sy_spec.specs.declared.domain.EnumTree.{EnumTree}
use Rattle.sy_spec.specs.declared.domain.TypeTree.{TypeTree}
use Rattle.sy_spec.specs.declared.domain.TypeTree.TheVariants as AType
use Rattle.sy_spec.specs.declared.position.ObligTree.{ObligTree}
use Rattle.sy_spec.specs.declared.position.PowerTree.{PowerTree}
use Rattle.sy_core.proofs.Members.{Among}
use Rattle.sy_core.proofs.Nodes.{among_left, among_right, there}
use Rattle.sy_domain.specs.Chains.{type_name}
use Rattle.sy_domain.specs.declared.meaning.Meaning.{Meaning}
use Rattle.sy_domain.specs.declared.meaning.Meaning.TheVariants as M
use Rattle.sy_domain.specs.declared.meaning.Sort.TheVariants as Sort
use Rattle.sy_domain.specs.Names.{Named, all_names, basic, declared, each_named, meaning_in, named, names_of_type, no_names}
use Rattle.sy_apart.specs.Apart.{DeclaresOnce}
use Rattle.sy_apart.proofs.Fresh.{all_fresh, fresh_means}
use Rattle.sy_apart.proofs.Parts.{declarations, obligations, parameters, powers, surviving, type_names}

-- the name of a thing is among those of the things
named_from : {A : Type 0} (name : A → Written) (meaning : ℕ → Meaning) (k : ℕ) (things : List A) (i : ℕ) (x : A) → slice_get things i ≡ Some x → Among (map (λ p. named (name p.1) (meaning p.0)) (enumerate_from k things)) (named (name x) (meaning (k + i)))
named_from name meaning k [] i x at = cc
named_from name meaning k (y ∷ things) zero x at =
    let is : y ≡ x = cc in
    let number : k ≡ k + 0 = omega arith in
    inl (λ j. named (name (is j)) (meaning (number j)))
named_from name meaning k (y ∷ things) (suc i) x at =
    let number : (k + 1) + i ≡ k + suc i = omega arith in
    inr
    (subst (λ n. Among (map (λ p. named (name p.1) (meaning p.0)) (enumerate_from (k + 1) things)) (named (name x) (meaning n))) number
    (named_from name meaning (k + 1) things i x at))

named_there : {A : Type 0} (name : A → Written) (meaning : ℕ → Meaning) (things : List A) (i : ℕ) (x : A) → slice_get things i ≡ Some x → Among (each_named name meaning things) (named (name x) (meaning i))
named_there name meaning things i x at =
    let number : 0 + i ≡ i = omega arith in
    subst (λ n. Among (each_named name meaning things) (named (name x) (meaning n))) number (named_from name meaning 0 things i x at)

-- so are the names of a type
type_from : (k : ℕ) (types : List TypeTree) (i : ℕ) (tree : TypeTree) (n : Named) → slice_get types i ≡ Some tree → Among (names_of_type (k + i) tree) n → Among (flat_map (λ p. names_of_type p.0 p.1) (enumerate_from k types)) n
type_from k [] i tree n at among = cc
type_from k (t ∷ types) zero tree n at among =
    let is : tree ≡ t = cc in
    let number : k + 0 ≡ k = omega arith in
    among_left (names_of_type k t) (flat_map (λ p. names_of_type p.0 p.1) (enumerate_from (k + 1) types)) n
    (subst (λ (x : TypeTree). Among (names_of_type k x) n) is (subst (λ m. Among (names_of_type m tree) n) number among))
type_from k (t ∷ types) (suc i) tree n at among =
    let number : k + suc i ≡ (k + 1) + i = omega arith in
    among_right (names_of_type k t) (flat_map (λ p. names_of_type p.0 p.1) (enumerate_from (k + 1) types)) n
    (type_from (k + 1) types i tree n at (subst (λ m. Among (names_of_type m tree) n) number among))

type_there : (types : List TypeTree) (i : ℕ) (tree : TypeTree) (n : Named) → slice_get types i ≡ Some tree → Among (names_of_type i tree) n → Among (flat_map (λ p. names_of_type p.0 p.1) (enumerate_from 0 types)) n
type_there types i tree n at among =
    let number : i ≡ 0 + i = omega arith in
    type_from 0 types i tree n at (subst (λ m. Among (names_of_type m tree) n) number among)

own_name : (i : ℕ) (tree : TypeTree) → Among (names_of_type i tree) (named (type_name tree) (M.Type (Sort.Declared i)))
own_name i (AType.Enumeration name e) = inl refl
own_name i (AType.Derived name base attributes) = inl refl

module _ (spec : SpecTree) (apart : DeclaresOnce spec) where
  -- what is among the names stands for its own meaning
  pub means : (n : Named) → Among (declared spec) n → meaning_in (all_names spec).table n.name.text ≡ Some n.meaning
  means n among =
      let fresh = all_fresh (declared spec) no_names apart in
      ap (λ t. meaning_in t n.name.text) fresh.1 ∙ fresh_means (declared spec) basic fresh.0 n among

  pub name_means : (i : ℕ) (n : Named) → slice_get (declared spec) i ≡ Some n → meaning_in (all_names spec).table n.name.text ≡ Some n.meaning
  name_means i n at = means n (there (declared spec) i n at)

  -- the parts of the names, from the left
  abbrev one : List Named
  one = type_names spec

  abbrev two : List Named
  two = one ++ parameters spec

  abbrev three : List Named
  three = two ++ declarations spec

  abbrev four : List Named
  four = three ++ obligations spec

  abbrev five : List Named
  five = four ++ surviving spec

  of_five : (n : Named) → Among five n → meaning_in (all_names spec).table n.name.text ≡ Some n.meaning
  of_five n among = means n (among_left five (powers spec) n among)

  of_four : (n : Named) → Among four n → meaning_in (all_names spec).table n.name.text ≡ Some n.meaning
  of_four n among = of_five n (among_left four (surviving spec) n among)

  of_three : (n : Named) → Among three n → meaning_in (all_names spec).table n.name.text ≡ Some n.meaning
  of_three n among = of_four n (among_left three (obligations spec) n among)

  of_two : (n : Named) → Among two n → meaning_in (all_names spec).table n.name.text ≡ Some n.meaning
  of_two n among = of_three n (among_left two (declarations spec) n among)

  of_type : (n : Named) → Among one n → meaning_in (all_names spec).table n.name.text ≡ Some n.meaning
  of_type n among = of_two n (among_left one (parameters spec) n among)

  pub type_means : (i : ℕ) (tree : TypeTree) → slice_get spec.domain.types i ≡ Some tree → meaning_in (all_names spec).table (type_name tree).text ≡ Some (M.Type (Sort.Declared i))
  type_means i tree at =
      let n = named (type_name tree) (M.Type (Sort.Declared i)) in
      of_type n (type_there spec.domain.types i tree n at (own_name i tree))

  pub constant_means : (i k : ℕ) (name : Written) (enumeration : EnumTree) (constant : Written) → slice_get spec.domain.types i ≡ Some (AType.Enumeration name enumeration) → slice_get enumeration.constants k ≡ Some constant
      → meaning_in (all_names spec).table constant.text ≡ Some (M.Constant i k)
  constant_means i k name enumeration constant at at_constant =
      let n = named constant (M.Constant i k) in
      of_type n
      (type_there spec.domain.types i (AType.Enumeration name enumeration) n at
      (inr (named_there (λ (c : Written). c) (λ m. M.Constant i m) enumeration.constants k constant at_constant)))

  pub parameter_means : (i : ℕ) (parameter : ParamTree) → slice_get spec.contract.parameters i ≡ Some parameter → meaning_in (all_names spec).table parameter.name.text ≡ Some (M.Parameter i)
  parameter_means i parameter at =
      let n = named parameter.name (M.Parameter i) in
      of_two n (among_right one (parameters spec) n (named_there (λ p. p.name) (λ m. M.Parameter m) spec.contract.parameters i parameter at))

  pub declaration_means : (i : ℕ) (declaration : DeclTree) → slice_get spec.contract.declarations i ≡ Some declaration → meaning_in (all_names spec).table declaration.name.text ≡ Some (M.Declaration i)
  declaration_means i declaration at =
      let n = named declaration.name (M.Declaration i) in
      of_three n (among_right two (declarations spec) n (named_there (λ d. d.name) (λ m. M.Declaration m) spec.contract.declarations i declaration at))

  pub obligation_means : (i : ℕ) (obligation : ObligTree) → slice_get spec.contract.obligations i ≡ Some obligation → meaning_in (all_names spec).table obligation.name.text ≡ Some (M.Position Form.Obligation i)
  obligation_means i obligation at =
      let n = named obligation.name (M.Position Form.Obligation i) in
      of_four n (among_right three (obligations spec) n (named_there (λ o. o.name) (λ m. M.Position Form.Obligation m) spec.contract.obligations i obligation at))

  pub surviving_means : (i : ℕ) (obligation : ObligTree) → slice_get spec.contract.surviving i ≡ Some obligation → meaning_in (all_names spec).table obligation.name.text ≡ Some (M.Position Form.Surviving i)
  surviving_means i obligation at =
      let n = named obligation.name (M.Position Form.Surviving i) in
      of_five n (among_right four (surviving spec) n (named_there (λ o. o.name) (λ m. M.Position Form.Surviving m) spec.contract.surviving i obligation at))

  pub power_means : (i : ℕ) (power : PowerTree) → slice_get spec.contract.powers i ≡ Some power → meaning_in (all_names spec).table power.name.text ≡ Some (M.Position Form.Power i)
  power_means i power at =
      let n = named power.name (M.Position Form.Power i) in
      means n (among_right five (powers spec) n (named_there (λ p. p.name) (λ m. M.Position Form.Power m) spec.contract.powers i power at))
