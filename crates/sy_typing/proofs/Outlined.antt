-- What holds of the outline of a specification when its order is asked for, and of the plan that is made then.
use Rattle.std.proofs.Common.{◌≡◌, ℕ, ◌≤◌, Bool, true, false, List, length, Option, Some, None, sym, ap, ◌∙◌, subst}
use Rattle.std.specs.Prelude.{IsTrue}
use Rattle.std.specs.List.{list_all}
use Rattle.sy_words.specs.declared.form.Form.{Form}
use Rattle.sy_core.specs.declared.position.Position.{Position}
use Rattle.sy_core.specs.declared.deed.Deed.{Deed}
use Rattle.sy_core.specs.Orders.{IsAcyclic, named_cycle}
use Rattle.sy_core.specs.Prerequisites.{nodes, numbered_needs, order_of}
use Rattle.sy_strata.specs.declared.fault.OrderFault.{OrderFault}
use Rattle.sy_strata.specs.declared.fault.OrderFault.TheVariants as Fault
use Rattle.sy_strata.specs.Edges.{IsCycleFault}
use Rattle.sy_order.specs.Naming.{names_what_is_there}
use Rattle.sy_order.specs.Nodes.{forms_of}
use Rattle.sy_spec.specs.declared.contract.SpecTree.{SpecTree}
use Rattle.sy_domain.specs.Checks.{domain_checks}
use Rattle.sy_domain.specs.Failures.{fault_of}
use Rattle.sy_domain.specs.Names.{all_names}
use Rattle.sy_scope.specs.Scopes.{Things, things_of}
use Rattle.sy_typing.specs.Machine.Planned.{IsPlanned}
use Rattle.sy_typing.specs.Outlines.{outline, position_outlines}
use Rattle.sy_typing.specs.Plans.{cycle_of, cycle_refusal, first_refusal, is_ordered, order_of_spec, text_refusals}
use Rattle.sy_typing.proofs.Existence.{all_there, position_number}
use Rattle.sy_typing.proofs.Few.{few_positions}
use Rattle.sy_typing.proofs.FirstFault.{of_order, ordered, unordered}

module _ (spec : SpecTree) (deed : Deed) (is : deed ≡ outline spec) where
  same : deed.positions ≡ position_outlines (all_names spec).table spec.contract
  unfolding outline
  same = ap (λ (d : Deed). d.positions) is

  pub few : first_refusal (text_refusals spec) ≡ None → length deed.positions ≤ 500
  few none =
      subst (λ n. n ≤ 500) (sym (ap length same ∙ position_number (all_names spec).table spec.contract)) (few_positions spec none)

  pub there : IsTrue (list_all (names_what_is_there deed) deed.positions)
  there =
      ap (list_all (names_what_is_there deed)) same
      ∙ all_there deed (all_names spec).table spec.contract same

  pub planned : (things : Things) (forms : List Form) (order : List ℕ)
      → things ≡ things_of spec → fault_of (domain_checks spec) ≡ None → first_refusal (text_refusals spec) ≡ None
      → cycle_refusal spec ≡ None → forms ≡ forms_of deed.positions → order ≡ order_of_spec spec → IsPlanned spec things deed forms order
  planned things forms order named domain texts last numbered listed =
      record {
        sound = of_order spec None domain texts last;
        named = named;
        outlined = is;
        numbered = numbered;
        ordered = listed;
      }

  pub unrefused : IsAcyclic (numbered_needs deed) (length (nodes deed)) → cycle_refusal spec ≡ None
  unrefused acyclic = ordered spec (subst (λ (d : Deed). IsAcyclic (numbered_needs d) (length (nodes d))) is acyclic)

  told : (fault : OrderFault) (cycle : List ℕ) → fault ≡ Fault.Cycle cycle → IsCycleFault (numbered_needs deed) (length (nodes deed)) fault
      → IsCycleFault (numbered_needs deed) (length (nodes deed)) (Fault.Cycle cycle)
  told fault cycle cycled said = subst (IsCycleFault (numbered_needs deed) (length (nodes deed))) cycled said

  pub cyclic : (fault : OrderFault) (cycle : List ℕ) → fault ≡ Fault.Cycle cycle → IsCycleFault (numbered_needs deed) (length (nodes deed)) fault
      → is_ordered spec ≡ false
  cyclic fault cycle cycled said =
      unordered spec (subst (λ (d : Deed). IsAcyclic (numbered_needs d) (length (nodes d)) → ⊥) is (told fault cycle cycled said).0)

  pub named_so : (fault : OrderFault) (cycle : List ℕ) → fault ≡ Fault.Cycle cycle → IsCycleFault (numbered_needs deed) (length (nodes deed)) fault
      → cycle ≡ cycle_of spec
  named_so fault cycle cycled said =
      (told fault cycle cycled said).1 ∙ ap (λ (d : Deed). named_cycle (numbered_needs d) (length (nodes d))) is
