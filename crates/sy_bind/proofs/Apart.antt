-- No two events, positions, attributes of an event or constants of an enumeration of the deed have the same name.
use Rattle.std.proofs.Common.{◌≡◌, ℕ, Bool, true, false, ◌&&◌, if◌then◌else◌, List, [], ◌∷◌, ◌++◌, map, Option, Some, None, refl, sym, ap, ◌∙◌}
use Rattle.std.specs.Prelude.{filter, IsTrue}
use Rattle.std.specs.List.{fold, flat_map, list_all}
use Rattle.std.specs.Map.{keys_of}
use Rattle.sy_core.specs.declared.value.ValueKind.{ValueKind}
use Rattle.sy_core.specs.declared.deed.AttrDecl.{AttrDecl}
use Rattle.sy_core.specs.declared.deed.Choices.{Choices}
use Rattle.sy_core.specs.declared.deed.EventDecl.{EventDecl}
use Rattle.sy_core.specs.declared.position.Position.{Position}
use Rattle.sy_core.specs.declared.deed.Deed.{Deed}
use Rattle.sy_core.specs.Soundness.{HasNamesApart, are_distinct}
use Rattle.sy_core.proofs.Listing.{and_left, and_right}
use Rattle.sy_words.specs.declared.form.Form.TheVariants as Form
use Rattle.sy_spec.specs.declared.contract.DeclTree.{DeclTree}
use Rattle.sy_spec.specs.declared.contract.SpecTree.{SpecTree}
use Rattle.sy_spec.specs.declared.domain.TypeTree.{TypeTree}
use Rattle.sy_spec.specs.declared.domain.TypeTree.TheVariants as AType
use Rattle.sy_domain.specs.declared.types.Member.{Member}
use Rattle.sy_domain.specs.Ontologies.{members_in}
use Rattle.sy_scope.specs.Scopes.{Things, declaration_sort}
use Rattle.sy_apart.specs.Apart as apart
use Rattle.sy_apart.specs.Apart.{constant_names, position_names}
use Rattle.sy_apart.proofs.Members.{put_distinct}
use Rattle.sy_apart.proofs.Parts.{distinct_constants, distinct_declarations, distinct_positions}
use Rattle.sy_events.specs.Enumerations.{choice_numbers, choices_of}
use Rattle.sy_events.specs.Events.{attribute, declares_event, event_declarations, event_of, kind_with, kinds_of_event, put_kind, put_member}
use Rattle.sy_events.proofs.Attributes.{event_names}
use Rattle.sy_lower.specs.Basis.{Basis}
use Rattle.sy_lower.specs.Positions.{obligation, positions, power}

abbrev Kinds : Type 0
Kinds = List (List ℕ × ValueKind)

-- ---- attributes

put_apart : (numbers : List (Option ℕ)) (kinds : Kinds) (m : List ℕ × Member) → are_distinct (keys_of kinds) ≡ true
    → are_distinct (keys_of (put_member numbers kinds m)) ≡ true
put_apart numbers kinds m h = at m.1.env
  where
    given : (o : Option ValueKind) → are_distinct (keys_of (put_kind kinds m.0 o)) ≡ true
    given None = h
    given (Some kind) = put_distinct m.0 kind kinds h

    at : (env : Bool) → are_distinct (keys_of (if env then put_kind kinds m.0 (kind_with numbers m.1.sort) else kinds)) ≡ true
    at true = given (kind_with numbers m.1.sort)
    at false = h

fold_apart : (numbers : List (Option ℕ)) (members : List (List ℕ × Member)) (kinds : Kinds) → are_distinct (keys_of kinds) ≡ true
    → are_distinct (keys_of (fold (put_member numbers) kinds members)) ≡ true
fold_apart numbers [] kinds h = h
fold_apart numbers (m ∷ members) kinds h = fold_apart numbers members (put_member numbers kinds m) (put_apart numbers kinds m h)

attribute_names : (kinds : Kinds) → map (λ (a : AttrDecl). a.name) (map attribute kinds) ≡ keys_of kinds
attribute_names [] = refl
attribute_names (p ∷ kinds) = ap (λ l. p.0 ∷ l) (attribute_names kinds)

attributes_apart : (s : Things) (numbers : List (Option ℕ)) (declarations : List DeclTree)
    → list_all (λ (e : EventDecl). are_distinct (map (λ (a : AttrDecl). a.name) e.attrs)) (map (event_of s numbers) declarations) ≡ true
attributes_apart s numbers [] = refl
attributes_apart s numbers (d ∷ declarations) =
    let here = ap are_distinct (attribute_names (kinds_of_event s numbers d))
    ∙ fold_apart numbers (members_in s.domain (declaration_sort s.domain.table d)) [] refl in
    let rest = attributes_apart s numbers declarations in
    λ j. here j && rest j

-- ---- constants

constants_apart : (types : List TypeTree) → list_all (λ tree. are_distinct (constant_names tree)) types ≡ true
    → list_all (λ (c : Choices). are_distinct c.names) (choices_of types) ≡ true
constants_apart [] h = refl
constants_apart (AType.Enumeration name e ∷ types) h =
    let first = and_left (are_distinct (map (λ c. c.text) e.constants)) (list_all (λ tree. are_distinct (constant_names tree)) types) h in
    let rest = constants_apart types (and_right (are_distinct (map (λ c. c.text) e.constants)) (list_all (λ tree. are_distinct (constant_names tree)) types) h) in
    λ j. first j && rest j
constants_apart (AType.Derived name base attributes ∷ types) h = constants_apart types h

-- ---- positions

each_name : {X : Type 0} (f : X → Position) (name : X → List ℕ) → ((x : X) → (f x).name ≡ name x) → (xs : List X)
    → map (λ (p : Position). p.name) (map f xs) ≡ map name xs
each_name f name same [] = refl
each_name f name same (x ∷ xs) = let rest = each_name f name same xs in λ j. same x j ∷ rest j

names_joined : (xs ys : List Position) → map (λ (p : Position). p.name) (xs ++ ys) ≡ (map (λ (p : Position). p.name) xs ++ map (λ (p : Position). p.name) ys)
names_joined [] ys = refl
names_joined (x ∷ xs) ys = ap (λ l. x.name ∷ l) (names_joined xs ys)

names_of_positions : (b : Basis) → map (λ (p : Position). p.name) (positions b) ≡ position_names b.contract
names_of_positions b =
    let first = map (obligation b Form.Obligation) b.contract.obligations in
    let second = map (obligation b Form.Surviving) b.contract.surviving in
    let third = map (power b) b.contract.powers in
    let f = each_name (obligation b Form.Obligation) (λ o. o.name.text) (λ x. refl) b.contract.obligations in
    let g = each_name (obligation b Form.Surviving) (λ o. o.name.text) (λ x. refl) b.contract.surviving in
    let h = each_name (power b) (λ p. p.name.text) (λ x. refl) b.contract.powers in
    names_joined (first ++ second) third ∙ ap (λ l. l ++ map (λ (p : Position). p.name) third) (names_joined first second) ∙ (λ j. f j ++ g j ++ h j)

-- ---- the deed

pub names_apart : (spec : SpecTree) (s : Things) (b : Basis) (deed : Deed) → apart.DeclaresOnce spec → b.contract ≡ spec.contract
    → deed.events ≡ map (event_of s (choice_numbers spec.domain.types)) (event_declarations s spec.contract.declarations)
    → deed.choices ≡ choices_of spec.domain.types → deed.positions ≡ positions b → HasNamesApart deed
names_apart spec s b deed names contract events choices placed =
    record {
      events =
          ap (λ l. are_distinct (map (λ (e : EventDecl). e.name) l)) events
          ∙ ap are_distinct (event_names s (choice_numbers spec.domain.types) (event_declarations s spec.contract.declarations))
          ∙ distinct_declarations spec names (declares_event s);
      positions =
          ap (λ l. are_distinct (map (λ (p : Position). p.name) l)) placed
          ∙ ap are_distinct (names_of_positions b ∙ ap position_names contract)
          ∙ distinct_positions spec names;
      attributes =
          ap (list_all (λ (e : EventDecl). are_distinct (map (λ (a : AttrDecl). a.name) e.attrs))) events
          ∙ attributes_apart s (choice_numbers spec.domain.types) (event_declarations s spec.contract.declarations);
      constants =
          ap (list_all (λ (c : Choices). are_distinct c.names)) choices
          ∙ constants_apart spec.domain.types (distinct_constants spec names);
    }
