-- Where the domain part has no fault, no name is declared twice.
use Rattle.std.proofs.Common.{◌≡◌, Bool, true, false, if◌then◌else◌, List, [], ◌∷◌, ◌++◌, Option, Some, None, refl}
use Rattle.std.specs.Prelude.{option_map}
use Rattle.std.specs.List.{flat_map, fold}
use Rattle.std.specs.Option.{option_or}
use Rattle.sy_base.specs.declared.refusal.Refusal.{Refusal}
use Rattle.sy_spec.specs.declared.contract.SpecTree.{SpecTree}
use Rattle.sy_domain.specs.declared.failure.Failure.{Failure}
use Rattle.sy_domain.specs.Checks.{attributes_apart, chains_end, domain_checks, names_apart, types_known}
use Rattle.sy_domain.specs.Failures.{Check, fault_of, first, refusal, refusal_of, sooner, stands_before}
use Rattle.sy_domain.specs.Names.{all_names, naming, repeated_attributes}
use Rattle.sy_apart.specs.Apart.{DeclaresOnce}

-- where some checks find no fault, the first of them doesn't
first_passes : (check : Check) (checks : List Check) → fault_of (check ∷ checks) ≡ None → refusal_of check ≡ None
unfolding fault_of
first_passes check checks h = at (refusal_of check) h
  where
    at : (o : Option Refusal) → option_or o (fault_of checks) ≡ None → o ≡ None
    at None h = refl
    at (Some refusal) h = cc

pub names_passed : (spec : SpecTree) → fault_of (domain_checks spec) ≡ None → refusal_of (names_apart spec) ≡ None
names_passed spec h = first_passes (names_apart spec) (types_known spec ∷ chains_end spec ∷ attributes_apart spec ∷ []) h

-- where no failure stands first, there is none
some_first : (found : Failure) (failures : List Failure) → fold sooner (Some found) failures ≡ None → ⊥
some_first found [] h = cc
some_first found (failure ∷ failures) h = at (stands_before failure.place found.place) (some_first failure failures) (some_first found failures) h
  where
    at : (b : Bool) → (fold sooner (Some failure) failures ≡ None → ⊥) → (fold sooner (Some found) failures ≡ None → ⊥)
        → fold sooner (if b then Some failure else Some found) failures ≡ None → ⊥
    at true this other h = this h
    at false this other h = other h

none_mapped : (name : Failure → Refusal) (o : Option Failure) → option_map name o ≡ None → o ≡ None
none_mapped name None h = refl
none_mapped name (Some failure) h = cc

no_failure : (name : Failure → Refusal) (failures : List Failure) → option_map name (first failures) ≡ None → failures ≡ []
no_failure name [] h = refl
no_failure name (failure ∷ failures) h = absurd (some_first failure failures (none_mapped name (first (failure ∷ failures)) h))

none_in_front : (xs ys : List Failure) → xs ++ ys ≡ [] → xs ≡ []
none_in_front [] ys h = refl
none_in_front (x ∷ xs) ys h = cc

pub none_repeated : (spec : SpecTree) → refusal_of (names_apart spec) ≡ None → DeclaresOnce spec
none_repeated spec h =
    none_in_front (naming spec).repeated (flat_map repeated_attributes spec.domain.types)
    (no_failure (refusal (names_apart spec).file (names_apart spec).name) (all_names spec).repeated h)
