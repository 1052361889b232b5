-- What holds of the attributes of events, of the events and of the enumerations of a deed, whatever the text.
use Rattle.std.proofs.Common.{◌≡◌, ℕ, zero, suc, ◌+◌, ◌<◌, Bool, true, false, not, ◌&&◌, ◌||◌, if◌then◌else◌, List, [], ◌∷◌, ◌++◌, length, map, slice_get, Option, Some, None, option_map, option_and_then, refl, sym, ap, ◌∙◌, arith, length-append}
use Rattle.std.specs.Prelude.{IfSome, ⊤, IsTrue, nat_lt, filter}
use Rattle.std.specs.List.{flat_map, fold, list_all, list_any}
use Rattle.std.specs.Map.{keys_of}
use Rattle.std.proofs.lemmas.Bool.{lt-ltb}
use Rattle.indexmap.specs.IndexMap.{insert_entry}
use Rattle.sy_core.specs.declared.value.ValueKind.{ValueKind}
use Rattle.sy_core.specs.declared.value.ValueKind.TheVariants as K
use Rattle.sy_core.specs.declared.deed.AttrDecl.{AttrDecl}
use Rattle.sy_core.specs.declared.deed.Choices.{Choices}
use Rattle.sy_core.specs.declared.deed.EventDecl.{EventDecl}
use Rattle.sy_core.specs.declared.deed.Deed.{Deed}
use Rattle.sy_core.specs.Soundness.{are_distinct, is_sound_decl, is_sound_kind}
use Rattle.sy_core.proofs.Listing.{and_left, and_right}
use Rattle.sy_spec.specs.declared.domain.TypeTree.{TypeTree}
use Rattle.sy_spec.specs.declared.domain.TypeTree.TheVariants as AType
use Rattle.sy_spec.specs.declared.contract.DeclTree.{DeclTree}
use Rattle.sy_domain.specs.declared.meaning.Sort.{Sort}
use Rattle.sy_domain.specs.declared.meaning.Sort.TheVariants as S
use Rattle.sy_domain.specs.declared.types.Member.{Member}
use Rattle.sy_domain.specs.Names.{same}
use Rattle.sy_domain.specs.Ontologies.{members_in}
use Rattle.sy_scope.specs.Scopes.{Things, declaration_sort}
use Rattle.sy_events.specs.Enumerations.{choice_numbers, choices_of, choices_of_type, is_enumeration}
use Rattle.sy_events.specs.Events.{attribute, attribute_kinds, event_of, kind_with, kinds_of_event, number_at, put_kind, put_member}
use Rattle.sy_events.specs.Numbers.{numbers_from}

abbrev Kinds : Type 0
Kinds = List (List ℕ × ValueKind)

-- ---- numbers

abbrev count : List Bool → ℕ
count [] = 0
count (true ∷ meant) = suc (count meant)
count (false ∷ meant) = count meant

weaken : {A : Type 0} (P Q : A → Type 0) → ((x : A) → P x → Q x) → (o : Option A) → IfSome o P → IfSome o Q
weaken P Q gives None h = tt
weaken P Q gives (Some x) h = gives x h

-- each number is below how many are meant
below : (meant : List Bool) (k n : ℕ) → IfSome (number_at (numbers_from k meant) n) (λ e. e < k + count meant)
below [] k n = tt
below (true ∷ meant) k zero = omega arith
below (true ∷ meant) k (suc n) =
    weaken (λ e. e < suc k + count meant) (λ e. e < k + suc (count meant)) (λ e lt. omega (arith, lt)) (number_at (numbers_from (suc k) meant) n) (below meant (suc k) n)
below (false ∷ meant) k zero = tt
below (false ∷ meant) k (suc n) = below meant k n

-- as many enumerations as are counted
enumerations : (types : List TypeTree) → length (choices_of types) ≡ count (map is_enumeration types)
enumerations [] = refl
enumerations (AType.Enumeration name e ∷ types) = ap suc (enumerations types)
enumerations (AType.Derived name base attributes ∷ types) = enumerations types

-- ---- kinds of values are there

module _ (deed : Deed) (types : List TypeTree) (choices : deed.choices ≡ choices_of types) where
  kind_sound : (sort : Sort) → IfSome (kind_with (choice_numbers types) sort) (λ kind. is_sound_kind deed kind ≡ true)
  kind_sound S.Number = refl
  kind_sound S.Text = refl
  kind_sound S.Boolean = refl
  kind_sound S.Date = refl
  kind_sound (S.Declared n) =
      at (number_at (choice_numbers types) n)
      (weaken (λ e. e < 0 + count (map is_enumeration types)) (λ e. e < count (map is_enumeration types)) (λ e lt. omega (arith, lt))
      (number_at (choice_numbers types) n) (below (map is_enumeration types) 0 n))
    where
      at : (o : Option ℕ) → IfSome o (λ e. e < count (map is_enumeration types))
          → IfSome (option_map (λ e. K.Choice e) o) (λ kind. is_sound_kind deed kind ≡ true)
      at None h = tt
      at (Some e) h = lt-ltb e (length deed.choices) (omega (arith, h, enumerations types, ap length choices))

  abbrev AreSound : Kinds → Type 0
  AreSound kinds = list_all (λ (p : List ℕ × ValueKind). is_sound_kind deed p.1) kinds ≡ true

  inserted : (name : List ℕ) (kind : ValueKind) (kinds : Kinds) → is_sound_kind deed kind ≡ true → AreSound kinds
      → AreSound (insert_entry same kinds name kind)
  inserted name kind [] k h = λ j. k j && true
  inserted name kind (p ∷ kinds) k h =
      let rest = and_right (is_sound_kind deed p.1) (list_all (λ (q : List ℕ × ValueKind). is_sound_kind deed q.1) kinds) h in
      at (same name p.0)
      (and_left (is_sound_kind deed p.1) (list_all (λ (q : List ℕ × ValueKind). is_sound_kind deed q.1) kinds) h)
      rest (inserted name kind kinds k rest)
    where
      at : (c : Bool) → is_sound_kind deed p.1 ≡ true → AreSound kinds → AreSound (insert_entry same kinds name kind)
          → AreSound (if c then (p.0, kind) ∷ kinds else p ∷ insert_entry same kinds name kind)
      at true here rest later = λ j. k j && rest j
      at false here rest later = λ j. here j && later j

  put_sound : (kinds : Kinds) (m : List ℕ × Member) → AreSound kinds → AreSound (put_member (choice_numbers types) kinds m)
  put_sound kinds m h = at m.1.env
    where
      given : (o : Option ValueKind) → IfSome o (λ kind. is_sound_kind deed kind ≡ true) → AreSound (put_kind kinds m.0 o)
      given None k = h
      given (Some kind) k = inserted m.0 kind kinds k h

      at : (env : Bool) → AreSound (if env then put_kind kinds m.0 (kind_with (choice_numbers types) m.1.sort) else kinds)
      at true = given (kind_with (choice_numbers types) m.1.sort) (kind_sound m.1.sort)
      at false = h

  fold_sound : (members : List (List ℕ × Member)) (kinds : Kinds) → AreSound kinds → AreSound (fold (put_member (choice_numbers types)) kinds members)
  fold_sound [] kinds h = h
  fold_sound (m ∷ members) kinds h = fold_sound members (put_member (choice_numbers types) kinds m) (put_sound kinds m h)

  mapped : (kinds : Kinds) → list_all (λ (a : AttrDecl). is_sound_kind deed a.kind) (map attribute kinds) ≡ list_all (λ (p : List ℕ × ValueKind). is_sound_kind deed p.1) kinds
  mapped [] = refl
  mapped (p ∷ kinds) = ap (λ c. is_sound_kind deed p.1 && c) (mapped kinds)

  pub events_sound : (s : Things) (declarations : List DeclTree)
      → list_all (is_sound_decl deed) (map (event_of s (choice_numbers types)) declarations) ≡ true
  events_sound s [] = refl
  events_sound s (d ∷ declarations) =
      let kinds = kinds_of_event s (choice_numbers types) d in
      let here : list_all (λ (a : AttrDecl). is_sound_kind deed a.kind) (map attribute kinds) ≡ true = mapped kinds ∙ fold_sound (members_in s.domain (declaration_sort s.domain.table d)) [] refl in
      let rest = events_sound s declarations in
      λ j. here j && rest j

-- ---- the attributes by their names

pub linked : (s : Things) (numbers : List (Option ℕ)) (declarations : List DeclTree)
    → map (λ (e : EventDecl). e.attrs) (map (event_of s numbers) declarations) ≡ map (map attribute) (map (kinds_of_event s numbers) declarations)
linked s numbers [] = refl
linked s numbers (d ∷ declarations) = ap (λ l. map attribute (kinds_of_event s numbers d) ∷ l) (linked s numbers declarations)

pub event_names : (s : Things) (numbers : List (Option ℕ)) (declarations : List DeclTree)
    → map (λ (e : EventDecl). e.name) (map (event_of s numbers) declarations) ≡ map (λ (d : DeclTree). d.name.text) declarations
event_names s numbers [] = refl
event_names s numbers (d ∷ declarations) = ap (λ l. d.name.text ∷ l) (event_names s numbers declarations)
