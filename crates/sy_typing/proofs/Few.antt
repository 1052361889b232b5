-- A specification that keeps the limits has few positions.
use Rattle.std.proofs.Common.{◌≡◌, ℕ, ◌≤◌, Bool, true, false, if◌then◌else◌, nat_le, codes, List, [], ◌∷◌, ◌++◌, Option, Some, None, refl, sym, ap, ◌∙◌}
use Rattle.std.specs.Prelude.{option_map}
use Rattle.std.specs.List.{fold}
use Rattle.std.specs.Option.{option_or}
use Rattle.std.proofs.lemmas.Bool.{leb-true}
use Rattle.sy_base.specs.declared.refusal.Refusal.{Refusal}
use Rattle.sy_spec.specs.declared.contract.SpecTree.{SpecTree}
use Rattle.sy_domain.specs.declared.failure.Failure.{Failure}
use Rattle.sy_domain.specs.Failures.{first, refusal, refusal_of, sooner, stands_before}
use Rattle.sy_scope.specs.Scopes.{things_of}
use Rattle.sy_names.specs.UnknownNames.{names_known}
use Rattle.sy_types.specs.WrongTypes.{types_right}
use Rattle.sy_literal.specs.Numbers.{numbers_in_range}
use Rattle.sy_literal.specs.Calendar.{calendar_refusal}
use Rattle.sy_literal.specs.Consequents.{consequents_without_situations}
use Rattle.sy_literal.specs.Limits.{atom_count, event_count, limits_kept, position_count, too_many}
use Rattle.sy_typing.specs.Positions.{HasFewPositions}
use Rattle.sy_typing.specs.Plans.{first_refusal, text_refusals}

-- ---- where the first of some refusals is none, each is

later_none : (check : Option Refusal) (later : List (Option Refusal)) → first_refusal (check ∷ later) ≡ None → first_refusal later ≡ None
unfolding first_refusal
later_none None later h = h
later_none (Some r) later h = cc

this_none : (check : Option Refusal) (later : List (Option Refusal)) → first_refusal (check ∷ later) ≡ None → check ≡ None
unfolding first_refusal
this_none None later h = refl
this_none (Some r) later h = cc

limits_none : (spec : SpecTree) → first_refusal (text_refusals spec) ≡ None → refusal_of (limits_kept spec) ≡ None
unfolding text_refusals
limits_none spec h =
    let names = refusal_of (names_known spec) in
    let types = refusal_of (types_right spec) in
    let numbers = refusal_of (numbers_in_range spec) in
    let calendar = calendar_refusal spec in
    let consequents = refusal_of (consequents_without_situations spec) in
    let limits = refusal_of (limits_kept spec) in
    this_none limits []
    (later_none consequents (limits ∷ [])
    (later_none calendar (consequents ∷ limits ∷ [])
    (later_none numbers (calendar ∷ consequents ∷ limits ∷ [])
    (later_none types (numbers ∷ calendar ∷ consequents ∷ limits ∷ [])
    (later_none names (types ∷ numbers ∷ calendar ∷ consequents ∷ limits ∷ []) h)))))

-- ---- where no failure stands first, there is none

some_first : (found : Failure) (failures : List Failure) → fold sooner (Some found) failures ≡ None → ⊥
some_first found [] h = cc
some_first found (failure ∷ failures) h = at (stands_before failure.place found.place) (some_first failure failures) (some_first found failures) h
  where
    at : (b : Bool) → (fold sooner (Some failure) failures ≡ None → ⊥) → (fold sooner (Some found) failures ≡ None → ⊥)
        → fold sooner (if b then Some failure else Some found) failures ≡ None → ⊥
    at true this other h = this h
    at false this other h = other h

no_failure : (name : Failure → Refusal) (xs ys zs : List Failure) → option_map name (first (xs ++ ys ++ zs)) ≡ None → xs ≡ []
no_failure name [] ys zs h = refl
no_failure name (x ∷ xs) ys zs h = absurd (some_first x (xs ++ ys ++ zs) (none_mapped (fold sooner (Some x) (xs ++ ys ++ zs)) h))
  where
    none_mapped : (o : Option Failure) → option_map name o ≡ None → o ≡ None
    none_mapped None h = refl
    none_mapped (Some failure) h = cc

kept : (word : List ℕ) (limit count : ℕ) → too_many word limit count ≡ [] → count ≤ limit
kept word limit count h = at (nat_le count limit) refl (record { place = None; words = word }) h
  where
    at : (b : Bool) → nat_le count limit ≡ b → (failure : Failure) → (if b then [] else failure ∷ []) ≡ [] → count ≤ limit
    at true e failure h = leb-true count limit e
    at false e failure h = cc

pub few_positions : (spec : SpecTree) → first_refusal (text_refusals spec) ≡ None → HasFewPositions spec.contract
few_positions spec h =
    kept (codes "positions") 500 (position_count spec.contract)
    (no_failure (refusal (limits_kept spec).file (limits_kept spec).name)
    (too_many (codes "positions") 500 (position_count spec.contract)) (too_many (codes "events") 500 (event_count (things_of spec)))
    (too_many (codes "atoms") 4000 (atom_count spec.contract)) (limits_none spec h))
