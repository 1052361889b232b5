-- The kinds that the noted ends tell are those of the types, and no chain of types that pass the checks reaches its own type.
use Rattle.std.proofs.Common.{◌≡◌, ℕ, ◌+◌, ◌<◌, ◌≤◌, Bool, true, false, ◌⊎◌, inl, inr, List, [], ◌∷◌, ◌++◌, length, get_or, map, flat_map, not, fold, Option, Some, None, option_map, option_and_then, slice_get, if◌then◌else◌, refl, sym, ap, ◌∙◌, subst, arith}
use Rattle.std.specs.List.{enumerate_from}
use Rattle.std.specs.Option.{option_or}
use Rattle.std.proofs.lemmas.Bool.{cases_lt}
use Rattle.std.proofs.lemmas.Option.{slice_get_past}
use Rattle.std.proofs.lemmas.List.{length-map}
use Rattle.sy_lex.specs.declared.written.Written.{Written}
use Rattle.sy_spec.specs.declared.domain.TypeTree.{TypeTree}
use Rattle.sy_spec.specs.declared.domain.TypeTree.TheVariants as AType
use Rattle.sy_spec.specs.declared.contract.SpecTree.{SpecTree}
use Rattle.sy_chains.specs.Chains.{Bases, NoCycle, chain_end, is_cyclic}
use Rattle.sy_chains.specs.Machine.Walks.{Marks}
use Rattle.sy_chains.proofs.Ups.{none_past}
use Rattle.sy_domain.specs.declared.failure.Failure.{Failure}
use Rattle.sy_domain.specs.Chains.{base_number, cyclic_name, cyclic_types}
use Rattle.sy_domain.specs.Checks.{domain_checks, names_apart, types_known, chains_end, attributes_apart}
use Rattle.sy_domain.specs.Failures.{Check, at as failure_at, fault_of, first, refusal, refusal_of, sooner, stands_before, unless}
use Rattle.sy_domain.specs.Machine.Ended.{noted_kind}
use Rattle.sy_domain.specs.Names.{Table, all_names}
use Rattle.sy_domain.specs.Ontologies.{end_kind, kind_of}

-- ---- kinds

noted_kind_is : (bases : Bases) (ends : Marks) (types : List TypeTree) (n : ℕ) (t : TypeTree)
    → get_or ends n None ≡ Some (chain_end bases n) → noted_kind types ends (n, t) ≡ kind_of types bases (n, t)
noted_kind_is bases ends types n (AType.Enumeration name e) is = refl
noted_kind_is bases ends types n (AType.Derived name base attributes) is =
    ap (λ o. end_kind (option_and_then (slice_get types) o)) is

noted_from : (bases : Bases) (ends : Marks) (types ts : List TypeTree) (i : ℕ)
    → ((n : ℕ) → n < i + length ts → get_or ends n None ≡ Some (chain_end bases n))
    → map (noted_kind types ends) (enumerate_from i ts) ≡ map (kind_of types bases) (enumerate_from i ts)
noted_from bases ends types [] i told = refl
noted_from bases ends types (t ∷ ts) i told =
    ap (λ k. k ∷ map (noted_kind types ends) (enumerate_from (i + 1) ts)) (noted_kind_is bases ends types i t (told i (omega arith)))
    ∙ ap (λ l. kind_of types bases (i, t) ∷ l) (noted_from bases ends types ts (i + 1) (λ n less. told n (omega arith)))

pub noted_are_kinds : (bases : Bases) (ends : Marks) (types : List TypeTree) → length bases ≡ length types
    → ((n : ℕ) → n < length bases → get_or ends n None ≡ Some (chain_end bases n))
    → map (noted_kind types ends) (enumerate_from 0 types) ≡ map (kind_of types bases) (enumerate_from 0 types)
noted_are_kinds bases ends types same told = noted_from bases ends types types 0 (λ n less. told n (omega arith))

-- ---- checks that pass

or_left_none : {A : Type 0} (a b : Option A) → option_or a b ≡ None → a ≡ None
or_left_none None b e = refl
or_left_none (Some x) b e = e

or_right_none : {A : Type 0} (a b : Option A) → option_or a b ≡ None → b ≡ None
or_right_none None b e = e
or_right_none (Some x) b e = cc

map_none : {A B : Type 0} (f : A → B) (o : Option A) → option_map f o ≡ None → o ≡ None
map_none f None e = refl
map_none f (Some a) e = cc

third_passes : (a b c d : Check) → fault_of (a ∷ b ∷ c ∷ d ∷ []) ≡ None → refusal_of c ≡ None
unfolding fault_of
third_passes a b c d e =
    let last = fault_of (d ∷ []) in
    let later = option_or (refusal_of c) last in
    let after = or_right_none (refusal_of a) (option_or (refusal_of b) later) e in
    or_left_none (refusal_of c) last (or_right_none (refusal_of b) later after)

stays : (f : Failure) (fs : List Failure) → fold sooner (Some f) fs ≡ None → ⊥
stays f [] e = cc
stays f (g ∷ gs) e = at (stands_before g.place f.place) e (stays f gs) (stays g gs)
  where
    at : (b : Bool) → fold sooner (if b then Some g else Some f) gs ≡ None
        → (fold sooner (Some f) gs ≡ None → ⊥) → (fold sooner (Some g) gs ≡ None → ⊥) → ⊥
    at true e one other = other e
    at false e one other = one e

none_first : (fs : List Failure) → first fs ≡ None → fs ≡ []
none_first [] e = refl
none_first (f ∷ fs) e = absurd (stays f fs e)

passes_empty : (c : Check) → refusal_of c ≡ None → c.failures ≡ []
passes_empty c e = none_first c.failures (map_none (refusal c.file c.name) (first c.failures) e)

-- ---- no cycle

left_empty : {A : Type 0} (xs ys : List A) → xs ++ ys ≡ [] → xs ≡ []
left_empty [] ys e = refl
left_empty (x ∷ xs) ys e = cc

right_empty : {A : Type 0} (xs ys : List A) → xs ++ ys ≡ [] → ys ≡ []
right_empty [] ys e = e
right_empty (x ∷ xs) ys e = cc

well : (b : Bool) (name : Written) → unless (not b) name ≡ [] → b ≡ false
well false name e = refl
well true name e = cc

none_among : (bases : Bases) (ts : List TypeTree) (i n : ℕ) → flat_map (cyclic_name bases) (enumerate_from i ts) ≡ []
    → i ≤ n → n < i + length ts → is_cyclic bases n ≡ false
none_among bases [] i n e low less = absurd (omega arith)
none_among bases (t ∷ ts) i n e low less =
    elim (cases_lt i n) [
      | inl above ↦
          none_among bases ts (i + 1) n
          (right_empty (cyclic_name bases (i, t)) (flat_map (cyclic_name bases) (enumerate_from (i + 1) ts)) e)
          (omega arith) (omega arith)
      | inr not_above ↦
          subst (λ k. is_cyclic bases k ≡ false) (let z : i ≡ n = omega arith in z)
          (here t (left_empty (cyclic_name bases (i, t)) (flat_map (cyclic_name bases) (enumerate_from (i + 1) ts)) e))
    ]
  where
    here : (u : TypeTree) → cyclic_name bases (i, u) ≡ [] → is_cyclic bases i ≡ false
    here (AType.Enumeration name f) none = well (is_cyclic bases i) name none
    here (AType.Derived name base attributes) none = well (is_cyclic bases i) name none

no_cycle_in : (table : Table) (types : List TypeTree) → cyclic_types table types ≡ []
    → NoCycle (map (base_number table) types)
no_cycle_in table types empty n =
    let bases = map (base_number table) types in
    elim (cases_lt n (length types)) [
      | inl less ↦ none_among bases types 0 n empty (omega arith) (omega arith)
      | inr past ↦ none_past bases n (let same : length bases ≡ length types = length-map types (base_number table) in omega arith)
    ]

-- no chain reaches its own type, where the check of chains passes
pub no_cycle_then : (spec : SpecTree) → refusal_of (chains_end spec) ≡ None
    → NoCycle (map (base_number (all_names spec).table) spec.domain.types)
no_cycle_then spec passed = no_cycle_in (all_names spec).table spec.domain.types (passes_empty (chains_end spec) passed)

-- nor where all checks pass
pub no_cycle : (spec : SpecTree) → fault_of (domain_checks spec) ≡ None
    → NoCycle (map (base_number (all_names spec).table) spec.domain.types)
no_cycle spec passed =
    no_cycle_then spec (third_passes (names_apart spec) (types_known spec) (chains_end spec) (attributes_apart spec) passed)
