-- The fault of a specification, check by check.
use Rattle.std.proofs.Common.{◌≡◌, ℕ, Bool, true, false, if◌then◌else◌, nat_eq, length, List, Option, Some, None, Result, Ok, Err, eq-eqb, refl, sym, ap, ◌∙◌}
use Rattle.std.specs.Option.{option_or}
use Rattle.std.proofs.lemmas.Bool.{ne_eqb}
use Rattle.sy_base.specs.declared.refusal.Refusal.{Refusal}
use Rattle.sy_base.specs.declared.refusal.Refused.{Refused}
use Rattle.sy_base.specs.declared.refusal.Refused.TheVariants as Why
use Rattle.sy_core.specs.Orders.{IsAcyclic}
use Rattle.sy_core.specs.Prerequisites.{nodes, numbered_needs}
use Rattle.sy_spec.specs.declared.contract.SpecTree.{SpecTree}
use Rattle.sy_domain.specs.Checks.{domain_checks}
use Rattle.sy_domain.specs.Failures.{Answers, fault_of}
use Rattle.sy_typing.specs.Outlines.{outline}
use Rattle.sy_typing.specs.Plans.{cycle_refusal, first_refusal, is_ordered, order_of_spec, spec_fault, text_refusals}

-- the domain part has a fault
pub of_domain : (spec : SpecTree) (refusal : Refusal) → fault_of (domain_checks spec) ≡ Some refusal → spec_fault spec ≡ Some refusal
unfolding spec_fault
of_domain spec refusal is = ap (λ o. option_or o (option_or (first_refusal (text_refusals spec)) (cycle_refusal spec))) is

-- a later check finds one
pub of_text : (spec : SpecTree) (refusal : Refusal) → fault_of (domain_checks spec) ≡ None → Some refusal ≡ first_refusal (text_refusals spec)
    → spec_fault spec ≡ Some refusal
unfolding spec_fault
of_text spec refusal none is =
    ap (λ o. option_or o (option_or (first_refusal (text_refusals spec)) (cycle_refusal spec))) none
    ∙ ap (λ o. option_or o (cycle_refusal spec)) (sym is)

-- the order says what is left
pub of_order : (spec : SpecTree) (last : Option Refusal) → fault_of (domain_checks spec) ≡ None → first_refusal (text_refusals spec) ≡ None
    → cycle_refusal spec ≡ last → spec_fault spec ≡ last
unfolding spec_fault
of_order spec last none still is =
    ap (λ o. option_or o (option_or (first_refusal (text_refusals spec)) (cycle_refusal spec))) none
    ∙ ap (λ o. option_or o (cycle_refusal spec)) still
    ∙ is

-- the order has every node
pub ordered : (spec : SpecTree) → IsAcyclic (numbered_needs (outline spec)) (length (nodes (outline spec))) → cycle_refusal spec ≡ None
ordered spec acyclic =
    none_then (is_ordered spec) _ (eq-eqb (length (order_of_spec spec)) (length (nodes (outline spec))) acyclic)
  where
    none_then : (b : Bool) (refusal : Refusal) → b ≡ true → (if b then None else Some refusal) ≡ None
    none_then true refusal is = refl
    none_then false refusal is = cc

-- or it has not
pub unordered : (spec : SpecTree) → (IsAcyclic (numbered_needs (outline spec)) (length (nodes (outline spec))) → ⊥) → is_ordered spec ≡ false
unordered spec cyclic = ne_eqb (length (order_of_spec spec)) (length (nodes (outline spec))) cyclic

-- a refusal of the domain part is one of the specification
pub refuses_too : (A B : Type 0) (spec : SpecTree) (why : Refused) → Answers {A = A} (fault_of (domain_checks spec)) (Err why)
    → Answers {A = B} (spec_fault spec) (Err why)
refuses_too A B spec (Why.Refusal refusal) is = of_domain spec refusal is
refuses_too A B spec Why.Memory is = tt

-- so is one of the order, where no check before it has a fault
pub refuses_last : (A B : Type 0) (spec : SpecTree) (why : Refused) → fault_of (domain_checks spec) ≡ None → first_refusal (text_refusals spec) ≡ None
    → Answers {A = A} (cycle_refusal spec) (Err why) → Answers {A = B} (spec_fault spec) (Err why)
refuses_last A B spec (Why.Refusal refusal) domain texts is = of_order spec (Some refusal) domain texts is
refuses_last A B spec Why.Memory domain texts is = tt
