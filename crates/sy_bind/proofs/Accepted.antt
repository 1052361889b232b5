-- What holds of a specification in which no check finds a fault.
use Rattle.std.proofs.Common.{◌≡◌, ℕ, ◌+◌, ◌≤◌, Bool, true, false, nat_le, nat_eq, if◌then◌else◌, List, [], ◌∷◌, ◌++◌, length, Option, Some, None, option_map, refl, sym, ap, ◌∙◌}
use Rattle.std.specs.Prelude.{codes}
use Rattle.std.specs.List.{fold}
use Rattle.std.specs.Option.{option_or}
use Rattle.std.proofs.lemmas.Bool.{eqb-true, leb-true}
use Rattle.sy_base.specs.declared.refusal.Refusal.{Refusal}
use Rattle.sy_core.specs.Orders.{IsAcyclic}
use Rattle.sy_core.specs.Prerequisites.{nodes, numbered_needs}
use Rattle.sy_spec.specs.declared.contract.SpecTree.{SpecTree}
use Rattle.sy_domain.specs.declared.failure.Failure.{Failure}
use Rattle.sy_domain.specs.Checks.{domain_checks}
use Rattle.sy_domain.specs.Failures.{fault_of, first, refusal, refusal_of, sooner, stands_before}
use Rattle.sy_scope.specs.Scopes.{things_of}
use Rattle.sy_names.specs.UnknownNames.{names_known}
use Rattle.sy_types.specs.WrongTypes.{types_right}
use Rattle.sy_literal.specs.Numbers.{numbers_in_range}
use Rattle.sy_literal.specs.Calendar.{calendar_refusal}
use Rattle.sy_literal.specs.Consequents.{consequents_without_situations}
use Rattle.sy_literal.specs.Limits.{atom_count, event_count, limits_kept, passed, position_count, too_many}
use Rattle.sy_typing.specs.Outlines.{outline}
use Rattle.sy_typing.specs.Plans.{cycle_refusal, first_refusal, is_ordered, order_of_spec, spec_fault, text_refusals}

-- ---- the first of some refusals is none

pub left_none : (a b : Option Refusal) → option_or a b ≡ None → a ≡ None
left_none None b h = refl
left_none (Some r) b h = cc

pub right_none : (a b : Option Refusal) → option_or a b ≡ None → b ≡ None
right_none None b h = h
right_none (Some r) b h = cc

module _ (spec : SpecTree) (accepted : spec_fault spec ≡ None) where
  split : option_or (fault_of (domain_checks spec)) (option_or (first_refusal (text_refusals spec)) (cycle_refusal spec)) ≡ None
  unfolding spec_fault
  split = accepted

  pub domain_none : fault_of (domain_checks spec) ≡ None
  domain_none = left_none (fault_of (domain_checks spec)) (option_or (first_refusal (text_refusals spec)) (cycle_refusal spec)) split

  later : option_or (first_refusal (text_refusals spec)) (cycle_refusal spec) ≡ None
  later = right_none (fault_of (domain_checks spec)) (option_or (first_refusal (text_refusals spec)) (cycle_refusal spec)) split

  pub texts_none : first_refusal (text_refusals spec) ≡ None
  texts_none = left_none (first_refusal (text_refusals spec)) (cycle_refusal spec) later

  cycle_none : cycle_refusal spec ≡ None
  cycle_none = right_none (first_refusal (text_refusals spec)) (cycle_refusal spec) later

  -- no node needs itself
  pub acyclic : IsAcyclic (numbered_needs (outline spec)) (length (nodes (outline spec)))
  acyclic = eqb-true (length (order_of_spec spec)) (length (nodes (outline spec))) (at (is_ordered spec) _ cycle_none)
    where
      at : (b : Bool) (r : Refusal) → (if b then None else Some r) ≡ None → b ≡ true
      at true r h = refl
      at false r h = cc

  -- ---- the limits

  later_none : (r : Option Refusal) (rs : List (Option Refusal)) → first_refusal (r ∷ rs) ≡ None → first_refusal rs ≡ None
  unfolding first_refusal
  later_none r rs h = right_none r (first_refusal rs) h

  this_none : (r : Option Refusal) (rs : List (Option Refusal)) → first_refusal (r ∷ rs) ≡ None → r ≡ None
  unfolding first_refusal
  this_none r rs h = left_none r (first_refusal rs) h

  limits_none : refusal_of (limits_kept spec) ≡ None
  unfolding text_refusals
  limits_none =
      let names = refusal_of (names_known spec) in
      let types = refusal_of (types_right spec) in
      let numbers = refusal_of (numbers_in_range spec) in
      let calendar = calendar_refusal spec in
      let consequents = refusal_of (consequents_without_situations spec) in
      let limits = refusal_of (limits_kept spec) in
      this_none limits []
      (later_none consequents (limits ∷ [])
      (later_none calendar (consequents ∷ limits ∷ [])
      (later_none numbers (calendar ∷ consequents ∷ limits ∷ [])
      (later_none types (numbers ∷ calendar ∷ consequents ∷ limits ∷ [])
      (later_none names (types ∷ numbers ∷ calendar ∷ consequents ∷ limits ∷ []) texts_none)))))

  none_mapped : (name : Failure → Refusal) (o : Option Failure) → option_map name o ≡ None → o ≡ None
  none_mapped name None h = refl
  none_mapped name (Some failure) h = cc

  some_first : (found : Failure) (failures : List Failure) → fold sooner (Some found) failures ≡ None → ⊥
  some_first found [] h = cc
  some_first found (failure ∷ failures) h = at (stands_before failure.place found.place) (some_first failure failures) (some_first found failures) h
    where
      at : (b : Bool) → (fold sooner (Some failure) failures ≡ None → ⊥) → (fold sooner (Some found) failures ≡ None → ⊥)
          → fold sooner (if b then Some failure else Some found) failures ≡ None → ⊥
      at true this other h = this h
      at false this other h = other h

  no_first : (failures : List Failure) → first failures ≡ None → failures ≡ []
  no_first [] h = refl
  no_first (failure ∷ failures) h = absurd (some_first failure failures h)

  none_passed : passed (things_of spec) spec.contract ≡ []
  none_passed =
      no_first (passed (things_of spec) spec.contract)
      (none_mapped (refusal (limits_kept spec).file (limits_kept spec).name) (first (passed (things_of spec) spec.contract)) limits_none)

  front_empty : (xs ys : List Failure) → xs ++ ys ≡ [] → xs ≡ []
  front_empty [] ys h = refl
  front_empty (x ∷ xs) ys h = cc

  back_empty : (xs ys : List Failure) → xs ++ ys ≡ [] → ys ≡ []
  back_empty [] ys h = h
  back_empty (x ∷ xs) ys h = cc

  kept : (word : List ℕ) (limit count : ℕ) → too_many word limit count ≡ [] → count ≤ limit
  kept word limit count h = at (nat_le count limit) refl (record { place = None; words = word }) h
    where
      at : (b : Bool) → nat_le count limit ≡ b → (failure : Failure) → (if b then [] else failure ∷ []) ≡ [] → count ≤ limit
      at true e failure h = leb-true count limit e
      at false e failure h = cc

  abbrev P : List Failure
  P = too_many (codes "positions") 500 (position_count spec.contract)

  abbrev E : List Failure
  E = too_many (codes "events") 500 (event_count (things_of spec))

  abbrev A : List Failure
  A = too_many (codes "atoms") 4000 (atom_count spec.contract)

  pub few_positions : position_count spec.contract ≤ 500
  few_positions = kept (codes "positions") 500 (position_count spec.contract) (front_empty P E (front_empty (P ++ E) A none_passed))

  pub few_events : event_count (things_of spec) ≤ 500
  few_events = kept (codes "events") 500 (event_count (things_of spec)) (back_empty P E (front_empty (P ++ E) A none_passed))

  pub few_atoms : atom_count spec.contract ≤ 4000
  few_atoms = kept (codes "atoms") 4000 (atom_count spec.contract) (back_empty (P ++ E) A none_passed)
