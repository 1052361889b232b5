-- What a name stands for is there and has that name.
use Rattle.std.proofs.Common.{◌≡◌, ℕ, suc, ◌+◌, Bool, true, false, cond, if◌then◌else◌, is_some, codes, List, [], ◌∷◌, ◌++◌, map, Some, None, slice_get, ◌⊎◌, inl, inr, refl, sym, ap, ◌∙◌, subst, arith}
use Rattle.std.specs.List.{enumerate_from, flat_map, fold}
use Rattle.sy_words.specs.declared.form.Form.TheVariants as Form
use Rattle.sy_lex.specs.declared.written.Written.{Written}
use Rattle.sy_spec.specs.declared.contract.SpecTree.{SpecTree}
use Rattle.sy_spec.specs.declared.domain.TypeTree.{TypeTree}
use Rattle.sy_spec.specs.declared.domain.TypeTree.TheVariants as AType
use Rattle.sy_core.proofs.Members.{Among}
use Rattle.sy_core.proofs.OrderLaw.{among_append}
use Rattle.sy_domain.specs.declared.meaning.Meaning.{Meaning}
use Rattle.sy_domain.specs.declared.meaning.Meaning.TheVariants as M
use Rattle.sy_domain.specs.declared.meaning.Sort.TheVariants as Sort
use Rattle.sy_domain.specs.Failures.{at}
use Rattle.sy_domain.specs.Names.{Named, Naming, Table, all_names, basic, declare, declared, each_named, entry, meaning_in, named, names_of_type, no_names, same}
use Rattle.sy_apart.specs.Things.{IsNamed, StandsFor, constants_if}
use Rattle.sy_apart.proofs.Distinct.{same_is}
use Rattle.sy_apart.proofs.Parts.{declarations, obligations, parameters, powers, surviving, type_names}

-- one of some names has this text, and stands for this
abbrev IsOf : List Named → List ℕ → Meaning → Type 0
IsOf ns name meaning = (n : Named) × Among ns n × (name ≡ n.name.text) × (n.meaning ≡ meaning)

-- what is found behind a table is found in it, or is what was put behind
found_in_two : (name : List ℕ) (table : Table) (n : Named) (meaning : Meaning) → meaning_in (table ++ entry n ∷ []) name ≡ Some meaning
    → (meaning_in table name ≡ Some meaning) ⊎ ((name ≡ n.name.text) × (n.meaning ≡ meaning))
found_in_two name [] n meaning h = by (same name n.name.text) refl h
  where
    by : (b : Bool) → same name n.name.text ≡ b → cond b (Some n.meaning) None ≡ Some meaning
        → (meaning_in [] name ≡ Some meaning) ⊎ ((name ≡ n.name.text) × (n.meaning ≡ meaning))
    by true e h = inr (same_is name n.name.text e, cc)
    by false e h = cc
found_in_two name (x ∷ table) n meaning h = by (same name x.0) h (found_in_two name table n meaning)
  where
    by : (b : Bool) → cond b (Some x.1) (meaning_in (table ++ entry n ∷ []) name) ≡ Some meaning
        → (meaning_in (table ++ entry n ∷ []) name ≡ Some meaning → (meaning_in table name ≡ Some meaning) ⊎ ((name ≡ n.name.text) × (n.meaning ≡ meaning)))
        → (cond b (Some x.1) (meaning_in table name) ≡ Some meaning) ⊎ ((name ≡ n.name.text) × (n.meaning ≡ meaning))
    by true h later = inl h
    by false h later = later h

found_in_one : (s : Naming) (n : Named) (name : List ℕ) (meaning : Meaning) → meaning_in (declare s n).table name ≡ Some meaning
    → (meaning_in s.table name ≡ Some meaning) ⊎ ((name ≡ n.name.text) × (n.meaning ≡ meaning))
found_in_one s n name meaning h = by (is_some (meaning_in s.table n.name.text)) h
  where
    by : (b : Bool)
        → (let t : Naming = if b then record { table = s.table; repeated = s.repeated ++ at n.name ∷ [] } else record { table = s.table ++ entry n ∷ []; repeated = s.repeated } in meaning_in t.table name ≡ Some meaning)
        → (meaning_in s.table name ≡ Some meaning) ⊎ ((name ≡ n.name.text) × (n.meaning ≡ meaning))
    by true h = inl h
    by false h = found_in_two name s.table n meaning h

found_in : (ns : List Named) (s : Naming) (name : List ℕ) (meaning : Meaning) → meaning_in (fold declare s ns).table name ≡ Some meaning
    → (meaning_in s.table name ≡ Some meaning) ⊎ IsOf ns name meaning
found_in [] s name meaning h = inl h
found_in (n ∷ ns) s name meaning h =
    elim (found_in ns (declare s n) name meaning h) [
      | inl before ↦ elim (found_in_one s n name meaning before) [ inl earlier ↦ inl earlier | inr here ↦ inr (n, inl refl, here.0, here.1) ]
      | inr later ↦ inr (later.0, inr later.1, later.2, later.3)
    ]

-- a name of some things is that of one of them
thing_from : {A : Type 0} (name_of : A → Written) (meaning : ℕ → Meaning) (k : ℕ) (things : List A) (n : Named) → Among (map (λ p. named (name_of p.1) (meaning p.0)) (enumerate_from k things)) n
    → (i : ℕ) × (x : A) × (slice_get things i ≡ Some x) × (name_of x ≡ n.name) × (meaning (k + i) ≡ n.meaning)
thing_from name_of meaning k [] n none = absurd none
thing_from name_of meaning k (x ∷ things) n (inl is) =
    let number : k + 0 ≡ k = omega arith in
    (0, x, refl, ap (λ (m : Named). m.name) is, ap meaning number ∙ ap (λ (m : Named). m.meaning) is)
thing_from name_of meaning k (x ∷ things) n (inr among) =
    let later = thing_from name_of meaning (k + 1) things n among in
    let number : k + suc later.0 ≡ (k + 1) + later.0 = omega arith in
    (suc later.0, later.1, later.2, later.3, ap meaning number ∙ later.4)

thing_of : {A : Type 0} (name_of : A → Written) (meaning : ℕ → Meaning) (things : List A) (name : List ℕ) (m : Meaning) → IsOf (each_named name_of meaning things) name m
    → (i : ℕ) × IsNamed name_of things i name × (meaning i ≡ m)
thing_of name_of meaning things name m of =
    let thing = thing_from name_of meaning 0 things of.0 of.1 in
    let number : thing.0 ≡ 0 + thing.0 = omega arith in (
      thing.0,
      (thing.1, thing.2, ap (λ (w : Written). w.text) thing.3 ∙ sym of.2),
      ap meaning number ∙ thing.4 ∙ of.3,
    )

-- the same of types
type_from : (k : ℕ) (types : List TypeTree) (n : Named) → Among (flat_map (λ p. names_of_type p.0 p.1) (enumerate_from k types)) n
    → (i : ℕ) × (tree : TypeTree) × (slice_get types i ≡ Some tree) × Among (names_of_type (k + i) tree) n
type_from k [] n none = absurd none
type_from k (tree ∷ types) n among =
    elim (among_append (names_of_type k tree) (flat_map (λ p. names_of_type p.0 p.1) (enumerate_from (k + 1) types)) n among) [
      | inl own ↦
          let number : k ≡ k + 0 = omega arith in
          (0, tree, refl, subst (λ m. Among (names_of_type m tree) n) number own)
      | inr among_later ↦
          let later = type_from (k + 1) types n among_later in
          let number : (k + 1) + later.0 ≡ k + suc later.0 = omega arith in
          (suc later.0, later.1, later.2, subst (λ m. Among (names_of_type m later.1) n) number later.3)
    ]

module _ (spec : SpecTree) (name : List ℕ) where
  -- a thing of this number gives what it stands for
  given : (m meaning : Meaning) → m ≡ meaning → StandsFor spec name m → StandsFor spec name meaning
  given m meaning is h = subst (StandsFor spec name) is h

  of_tree : (i : ℕ) (tree : TypeTree) (n : Named) → slice_get spec.domain.types i ≡ Some tree → Among (names_of_type i tree) n → name ≡ n.name.text → StandsFor spec name n.meaning
  of_tree i (AType.Derived own base attributes) n is (inl e) text =
      given (M.Type (Sort.Declared i)) n.meaning (ap (λ (m : Named). m.meaning) e)
      (AType.Derived own base attributes, is, ap (λ (m : Named). m.name.text) e ∙ sym text)
  of_tree i (AType.Derived own base attributes) n is (inr none) text = absurd none
  of_tree i (AType.Enumeration own e) n is (inl h) text =
      given (M.Type (Sort.Declared i)) n.meaning (ap (λ (m : Named). m.meaning) h)
      (AType.Enumeration own e, is, ap (λ (m : Named). m.name.text) h ∙ sym text)
  of_tree i (AType.Enumeration own e) n is (inr among) text =
      let thing = thing_of (λ (c : Written). c) (λ k. M.Constant i k) e.constants name n.meaning (n, among, text, refl) in
      given (M.Constant i thing.0) n.meaning thing.2
      (subst (λ o. IsNamed (λ (c : Written). c) (constants_if o) thing.0 name) (sym is) thing.1)

  of_type : (meaning : Meaning) → IsOf (type_names spec) name meaning → StandsFor spec name meaning
  of_type meaning of =
      let type = type_from 0 spec.domain.types of.0 of.1 in
      let number : 0 + type.0 ≡ type.0 = omega arith in
      given of.0.meaning meaning of.3
      (of_tree type.0 type.1 of.0 type.2 (subst (λ m. Among (names_of_type m type.1) of.0) number type.3) of.2)

  of_parameter : (meaning : Meaning) → IsOf (parameters spec) name meaning → StandsFor spec name meaning
  of_parameter meaning of =
      let thing = thing_of (λ p. p.name) (λ i. M.Parameter i) spec.contract.parameters name meaning of in
      given (M.Parameter thing.0) meaning thing.2 thing.1

  of_declaration : (meaning : Meaning) → IsOf (declarations spec) name meaning → StandsFor spec name meaning
  of_declaration meaning of =
      let thing = thing_of (λ d. d.name) (λ i. M.Declaration i) spec.contract.declarations name meaning of in
      given (M.Declaration thing.0) meaning thing.2 thing.1

  of_obligation : (meaning : Meaning) → IsOf (obligations spec) name meaning → StandsFor spec name meaning
  of_obligation meaning of =
      let thing = thing_of (λ o. o.name) (λ i. M.Position Form.Obligation i) spec.contract.obligations name meaning of in
      given (M.Position Form.Obligation thing.0) meaning thing.2 thing.1

  of_surviving : (meaning : Meaning) → IsOf (surviving spec) name meaning → StandsFor spec name meaning
  of_surviving meaning of =
      let thing = thing_of (λ o. o.name) (λ i. M.Position Form.Surviving i) spec.contract.surviving name meaning of in
      given (M.Position Form.Surviving thing.0) meaning thing.2 thing.1

  of_power : (meaning : Meaning) → IsOf (powers spec) name meaning → StandsFor spec name meaning
  of_power meaning of =
      let thing = thing_of (λ p. p.name) (λ i. M.Position Form.Power i) spec.contract.powers name meaning of in
      given (M.Position Form.Power thing.0) meaning thing.2 thing.1

  -- one of two lists together has it
  parted : (xs ys : List Named) (meaning : Meaning) → IsOf (xs ++ ys) name meaning → IsOf xs name meaning ⊎ IsOf ys name meaning
  parted xs ys meaning of =
      elim (among_append xs ys of.0 of.1) [
        | inl a ↦ inl (of.0, a, of.2, of.3)
        | inr b ↦ inr (of.0, b, of.2, of.3)
      ]

  joined : (xs ys : List Named) (meaning : Meaning) → (IsOf xs name meaning → StandsFor spec name meaning) → (IsOf ys name meaning → StandsFor spec name meaning) → IsOf (xs ++ ys) name meaning → StandsFor spec name meaning
  joined xs ys meaning f g of = elim (parted xs ys meaning of) [ inl a ↦ f a | inr b ↦ g b ]

  of_declared : (meaning : Meaning) → IsOf (declared spec) name meaning → StandsFor spec name meaning
  of_declared meaning =
      joined (type_names spec ++ parameters spec ++ declarations spec ++ obligations spec ++ surviving spec) (powers spec) meaning
      (joined (type_names spec ++ parameters spec ++ declarations spec ++ obligations spec) (surviving spec) meaning
      (joined (type_names spec ++ parameters spec ++ declarations spec) (obligations spec) meaning
      (joined (type_names spec ++ parameters spec) (declarations spec) meaning
      (joined (type_names spec) (parameters spec) meaning (of_type meaning) (of_parameter meaning))
      (of_declaration meaning))
      (of_obligation meaning))
      (of_surviving meaning))
      (of_power meaning)

  -- the basic types
  basic_one : (word : List ℕ) (m : Meaning) (later : Table) (meaning : Meaning) → meaning_in ((word, m) ∷ later) name ≡ Some meaning
      → (name ≡ word → StandsFor spec name m) → (meaning_in later name ≡ Some meaning → StandsFor spec name meaning) → StandsFor spec name meaning
  basic_one word m later meaning h own others = by (same name word) refl h
    where
      by : (b : Bool) → same name word ≡ b → cond b (Some m) (meaning_in later name) ≡ Some meaning → StandsFor spec name meaning
      by true e h = let is : m ≡ meaning = cc in given m meaning is (own (same_is name word e))
      by false e h = others h

  of_basic : (meaning : Meaning) → meaning_in basic name ≡ Some meaning → StandsFor spec name meaning
  of_basic meaning h =
      let dates : Table = (codes "Date", M.Type Sort.Date) ∷ [] in
      let booleans : Table = (codes "Boolean", M.Type Sort.Boolean) ∷ dates in
      let words : Table = (codes "Text", M.Type Sort.Text) ∷ booleans in
      basic_one (codes "Number") (M.Type Sort.Number) words meaning h (λ e. e)
      (λ h. basic_one (codes "Text") (M.Type Sort.Text) booleans meaning h (λ e. e)
      (λ h. basic_one (codes "Boolean") (M.Type Sort.Boolean) dates meaning h (λ e. e)
      (λ h. basic_one (codes "Date") (M.Type Sort.Date) [] meaning h (λ e. e) (λ none. cc))))

pub stands_for : (spec : SpecTree) (name : List ℕ) (meaning : Meaning) → meaning_in (all_names spec).table name ≡ Some meaning → StandsFor spec name meaning
stands_for spec name meaning h =
    elim (found_in (declared spec) no_names name meaning h) [
      | inl before ↦ of_basic spec name meaning before
      | inr of ↦ of_declared spec name meaning of
    ]
