-- Values that a line gives to the attributes of an event, each once and in their order, are given to it.
use Rattle.std.proofs.Common.{◌≡◌, ℕ, Bool, true, false, not, ◌||◌, List, [], ◌∷◌, ◌++◌, map, Some, option_and_then, refl, ap, subst, ◌∙◌, append_assoc}
use Rattle.std.specs.List.{list_any, list_all}
use Rattle.sy_core.specs.declared.value.Value.{Value}
use Rattle.sy_core.specs.declared.deed.AttrDecl.{AttrDecl}
use Rattle.sy_core.specs.declared.deed.Deed.{Deed}
use Rattle.sy_core.specs.Soundness.{are_distinct}
use Rattle.sy_binding.specs.declared.tree.FieldTree.{FieldTree}
use Rattle.sy_log.specs.Values.{all_given, given_once, gives, is_attribute, same, value_given, value_of, values_given}
use Rattle.sy_log.proofs.Booleans.{both, either, left, neither, right, untrue}
use Rattle.sy_log.proofs.Finding.{same_is, same_itself}

-- the field gives the value to the attribute
pub record Tells (deed : Deed) (attr : AttrDecl) (given : Value) (f : FieldTree) : Type 0 where
  pub name : f.name.text ≡ attr.name
  pub value : value_of deed attr.kind f.value ≡ Some given

-- each field gives the value to the attribute at its place
abbrev pub TellAll : Deed → List AttrDecl → List Value → List FieldTree → Type 0
TellAll deed [] [] [] = Unit {0}
TellAll deed (attr ∷ attrs) (value ∷ values) (f ∷ fields) = Tells deed attr value f × TellAll deed attrs values fields
TellAll deed attrs values fields = ⊥

abbrev names_of : List AttrDecl → List (List ℕ)
names_of attrs = map (λ attr. attr.name) attrs

-- the fields give nothing to the attributes
abbrev Apart : List FieldTree → List AttrDecl → Type 0
Apart fields [] = Unit {0}
Apart fields (attr ∷ attrs) = (list_any (gives attr.name) fields ≡ false) × Apart fields attrs

or_first : (a b : Bool) → (a || b) ≡ false → a ≡ false
or_first false b h = refl
or_first true b h = absurd cc

or_second : (a b : Bool) → (a || b) ≡ false → b ≡ false
or_second false b h = h
or_second true b h = absurd cc

any_append : {A : Type 0} (test : A → Bool) (xs ys : List A) → list_any test xs ≡ false → list_any test ys ≡ false
    → list_any test (xs ++ ys) ≡ false
any_append test [] ys none others = others
any_append test (x ∷ xs) ys none others =
    neither (test x) (list_any test (xs ++ ys)) (or_first (test x) (list_any test xs) none)
    (any_append test xs ys (or_second (test x) (list_any test xs) none) others)

differ : (name other : List ℕ) → (name ≡ other → ⊥) → (b : Bool) → same name other ≡ b → same name other ≡ false
differ name other apart false h = h
differ name other apart true h = absurd (apart (same_is name other h))

-- ---- each name is given a value once

module _ (deed : Deed) where
  -- no field gives to a name that isn't among those of the attributes
  none_gives : (name : List ℕ) (attrs : List AttrDecl) (values : List Value) (fields : List FieldTree)
      → TellAll deed attrs values fields → list_any (same name) (names_of attrs) ≡ false → list_any (gives name) fields ≡ false
  none_gives name [] [] [] all other = refl
  none_gives name (attr ∷ attrs) (value ∷ values) (f ∷ fields) all other =
      neither (same name f.name.text) (list_any (gives name) fields)
      (ap (same name) all.0.name ∙ or_first (same name attr.name) (list_any (same name) (names_of attrs)) other)
      (none_gives name attrs values fields all.1 (or_second (same name attr.name) (list_any (same name) (names_of attrs)) other))
  none_gives name [] [] (f ∷ fields) all other = absurd all
  none_gives name [] (value ∷ values) fields all other = absurd all
  none_gives name (attr ∷ attrs) [] fields all other = absurd all
  none_gives name (attr ∷ attrs) (value ∷ values) [] all other = absurd all

  -- what fields in front that give nothing to the name leave to give
  behind_front : (name : List ℕ) (front fields : List FieldTree) → list_any (gives name) front ≡ false
      → given_once name (front ++ fields) ≡ given_once name fields
  behind_front name [] fields none = refl
  behind_front name (f ∷ front) fields none =
      rw (or_first (gives name f) (list_any (gives name) front) none)
      (behind_front name front fields (or_second (gives name f) (list_any (gives name) front) none))

  first_given : (name : List ℕ) (f : FieldTree) (fields : List FieldTree) → f.name.text ≡ name
      → list_any (gives name) fields ≡ false → given_once name (f ∷ fields) ≡ Some f.value
  first_given name f fields is none =
      let here : gives name f ≡ true = ap (same name) is ∙ same_itself name in
      rw (here, none) refl

  -- the fields in front, with one more that gives to another name
  still_apart : (front : List FieldTree) (f : FieldTree) (attrs : List AttrDecl) → list_any (same f.name.text) (names_of attrs) ≡ false
      → Apart front attrs → Apart (front ++ f ∷ []) attrs
  still_apart front f [] other apart = tt
  still_apart front f (attr ∷ attrs) other apart =
      let not_it : same f.name.text attr.name ≡ false = or_first (same f.name.text attr.name) (list_any (same f.name.text) (names_of attrs)) other in
      let turned : same attr.name f.name.text ≡ false =
      differ attr.name f.name.text
      (λ is. let itself = ap (same f.name.text) is ∙ same_itself f.name.text in absurd (cc not_it))
      (same attr.name f.name.text) refl in (
        any_append (gives attr.name) front (f ∷ []) apart.0 (neither (gives attr.name f) false turned refl),
        still_apart front f attrs (or_second (same f.name.text attr.name) (list_any (same f.name.text) (names_of attrs)) other) apart.1,
      )

  no_field : (attr : AttrDecl) (attrs : List AttrDecl) (values : List Value) → TellAll deed (attr ∷ attrs) values [] → ⊥
  no_field attr attrs [] all = all
  no_field attr attrs (value ∷ values) all = all

  no_attribute : (f : FieldTree) (fields : List FieldTree) (values : List Value) → TellAll deed [] values (f ∷ fields) → ⊥
  no_attribute f fields [] all = all
  no_attribute f fields (value ∷ values) all = all

  all_told : (front fields : List FieldTree) (attrs : List AttrDecl) (values : List Value) → TellAll deed attrs values fields
      → are_distinct (names_of attrs) ≡ true → Apart front attrs → all_given deed (front ++ fields) attrs ≡ Some values
  all_told front [] [] [] all distinct apart = refl
  all_told front (f ∷ fields) (attr ∷ attrs) (value ∷ values) all distinct apart =
      let other : list_any (same attr.name) (names_of attrs) ≡ false =
      untrue (list_any (same attr.name) (names_of attrs)) (left (not (list_any (same attr.name) (names_of attrs))) (are_distinct (names_of attrs)) distinct) in
      let others = right (not (list_any (same attr.name) (names_of attrs))) (are_distinct (names_of attrs)) distinct in
      let once : given_once attr.name (front ++ f ∷ fields) ≡ Some f.value =
      behind_front attr.name front (f ∷ fields) apart.0
      ∙ first_given attr.name f fields all.0.name (none_gives attr.name attrs values fields all.1 other) in
      let first : value_given deed (front ++ f ∷ fields) attr ≡ Some value =
      ap (option_and_then (value_of deed attr.kind)) once ∙ all.0.value in
      let other' : list_any (same f.name.text) (names_of attrs) ≡ false =
      ap (λ (name : List ℕ). list_any (same name) (names_of attrs)) all.0.name ∙ other in
      let later = all_told (front ++ f ∷ []) fields attrs values all.1 others (still_apart front f attrs other' apart.1) in
      let more : all_given deed (front ++ f ∷ fields) attrs ≡ Some values =
      subst (λ (l : List FieldTree). all_given deed l attrs ≡ Some values) (append_assoc front (f ∷ []) fields) later in
      rw (first, more) refl
  all_told front [] [] (value ∷ values) all distinct apart = absurd all
  all_told front [] (attr ∷ attrs) values all distinct apart = absurd (no_field attr attrs values all)
  all_told front (f ∷ fields) [] values all distinct apart = absurd (no_attribute f fields values all)
  all_told front (f ∷ fields) (attr ∷ attrs) [] all distinct apart = absurd all

  names_attribute : (front attrs : List AttrDecl) (attr : AttrDecl) (f : FieldTree) → f.name.text ≡ attr.name
      → is_attribute (front ++ attr ∷ attrs) f ≡ true
  names_attribute [] attrs attr f is =
      let here : gives attr.name f ≡ true = ap (same attr.name) is ∙ same_itself attr.name in
      rw here refl
  names_attribute (a ∷ front) attrs attr f is =
      either (gives a.name f) (is_attribute (front ++ attr ∷ attrs) f) (names_attribute front attrs attr f is)

  -- each field names one of the attributes
  all_name : (front attrs : List AttrDecl) (values : List Value) (fields : List FieldTree) → TellAll deed attrs values fields
      → list_all (is_attribute (front ++ attrs)) fields ≡ true
  all_name front [] [] [] all = refl
  all_name front (attr ∷ attrs) (value ∷ values) (f ∷ fields) all =
      let more : list_all (is_attribute (front ++ attr ∷ attrs)) fields ≡ true =
      subst (λ (l : List AttrDecl). list_all (is_attribute l) fields ≡ true) (append_assoc front (attr ∷ []) attrs)
      (all_name (front ++ attr ∷ []) attrs values fields all.1) in
      both (is_attribute (front ++ attr ∷ attrs) f) (list_all (is_attribute (front ++ attr ∷ attrs)) fields)
      (names_attribute front attrs attr f all.0.name) more
  all_name front [] (value ∷ values) fields all = absurd all
  all_name front [] [] (f ∷ fields) all = absurd all
  all_name front (attr ∷ attrs) values [] all = absurd (no_field attr attrs values all)
  all_name front (attr ∷ attrs) [] (f ∷ fields) all = absurd all

  no_front : (attrs : List AttrDecl) → Apart [] attrs
  no_front [] = tt
  no_front (attr ∷ attrs) = (refl, no_front attrs)

  -- where no two attributes have the same name, these are their values
  pub values_told : (attrs : List AttrDecl) (values : List Value) (fields : List FieldTree) → TellAll deed attrs values fields
      → are_distinct (names_of attrs) ≡ true → values_given deed attrs fields ≡ Some values
  values_told attrs values fields all distinct =
      rw (all_name [] attrs values fields all) (all_told [] fields attrs values all distinct (no_front attrs))
