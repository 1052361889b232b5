-- The deed has the order of the specification: its propositions name the same internal events.
use Rattle.std.proofs.Common.{◌≡◌, ℕ, true, List, [], ◌∷◌, ◌++◌, length, map, Option, Some, None, refl, sym, ap, ◌∙◌, subst}
use Rattle.sy_words.specs.declared.form.Form.{Form}
use Rattle.sy_words.specs.declared.form.Form.TheVariants as Form
use Rattle.sy_words.specs.declared.verb.Verb.{Verb}
use Rattle.sy_core.specs.declared.kind.Target.{Target}
use Rattle.sy_core.specs.declared.position.Position.{Position}
use Rattle.sy_core.specs.declared.position.Goal.{Goal}
use Rattle.sy_core.specs.declared.position.Goal.TheVariants as G
use Rattle.sy_core.specs.declared.deed.Deed.{Deed}
use Rattle.sy_core.specs.Mentions.{InternalEvent, names_of}
use Rattle.sy_core.specs.Orders.{IsAcyclic}
use Rattle.sy_core.specs.Prerequisites.{nodes, numbered_needs, order_of}
use Rattle.sy_core.specs.Soundness.{IsOrdered}
use Rattle.sy_tree.specs.declared.proposition.PropTree.{PropTree}
use Rattle.sy_spec.specs.declared.position.ObligTree.{ObligTree}
use Rattle.sy_spec.specs.declared.position.PowerTree.{PowerTree}
use Rattle.sy_spec.specs.declared.contract.SpecTree.{SpecTree}
use Rattle.sy_domain.specs.Names.{Table, all_names}
use Rattle.sy_typing.specs.Outlines.{act_or_none, act_outline, mentions, obligation_outline, one_happens, outline, position_outlines, power_outline, trigger_mentions}
use Rattle.sy_typing.specs.Plans.{order_of_spec, spec_fault}
use Rattle.sy_typing.specs.Positions.{act_target}
use Rattle.sy_typing.proofs.Existence.{names_of_one}
use Rattle.sy_parts.specs.Bare.{AreSameBare, bare, bare_goal, bare_prop}
use Rattle.sy_parts.proofs.BareOrder.{same_acyclic, same_order}
use Rattle.sy_lower.specs.Basis.{Basis}
use Rattle.sy_lower.specs.Positions.{obligation, positions, power}
use Rattle.sy_lower.specs.Propositions.{lowered, trigger}
use Rattle.sy_lower.proofs.Named.{lowered_named, names_const}

module _ (b : Basis) where
  abbrev table : Table
  table = b.things.domain.table

  -- ---- positions by their events alone

  trigger_named : (tree : Option PropTree) → names_of (trigger b tree) ≡ trigger_mentions table b.contract tree
  trigger_named None = names_const true
  trigger_named (Some tree) = lowered_named b tree

  bare_obligation : (form : Form) (o : ObligTree) → bare (obligation b form o) ≡ obligation_outline table b.contract form o
  bare_obligation form o =
      λ j. record {
        name = o.name.text;
        form = form;
        first = o.debtor.text;
        second = o.creditor.text;
        trigger = one_happens (trigger_named o.trigger j);
        antecedent = one_happens (lowered_named b o.antecedent j);
        goal = G.Duty (one_happens (lowered_named b o.consequent j));
      }

  act_bare : (verb : Verb) (o : Option Target) → bare_goal (act_or_none verb o) ≡ act_or_none verb o
  act_bare verb None = refl
  act_bare verb (Some target) = refl

  bare_power : (p : PowerTree) → bare (power b p) ≡ power_outline table b.contract p
  bare_power p =
      λ j. record {
        name = p.name.text;
        form = Form.Power;
        first = p.holder.text;
        second = p.other_party.text;
        trigger = one_happens (trigger_named p.trigger j);
        antecedent = one_happens (lowered_named b p.antecedent j);
        goal = act_bare p.act.verb.verb (act_target table b.contract p.act.verb.verb p.act.target) j;
      }

  bare_outlined : (form : Form) (o : ObligTree) → bare (obligation_outline table b.contract form o) ≡ obligation_outline table b.contract form o
  bare_outlined form o =
      λ j. record {
        name = o.name.text;
        form = form;
        first = o.debtor.text;
        second = o.creditor.text;
        trigger = one_happens (names_of_one (trigger_mentions table b.contract o.trigger) j);
        antecedent = one_happens (names_of_one (mentions table b.contract o.antecedent) j);
        goal = G.Duty (one_happens (names_of_one (mentions table b.contract o.consequent) j));
      }

  bare_power_outlined : (p : PowerTree) → bare (power_outline table b.contract p) ≡ power_outline table b.contract p
  bare_power_outlined p =
      λ j. record {
        name = p.name.text;
        form = Form.Power;
        first = p.holder.text;
        second = p.other_party.text;
        trigger = one_happens (names_of_one (trigger_mentions table b.contract p.trigger) j);
        antecedent = one_happens (names_of_one (mentions table b.contract p.antecedent) j);
        goal = act_bare p.act.verb.verb (act_target table b.contract p.act.verb.verb p.act.target) j;
      }

  -- ---- all of them

  each : {X : Type 0} (f g : X → Position) → ((x : X) → bare (f x) ≡ g x) → (xs : List X) → map bare (map f xs) ≡ map g xs
  each f g same [] = refl
  each f g same (x ∷ xs) = let rest = each f g same xs in λ j. same x j ∷ rest j

  joined : (xs ys : List Position) → map bare (xs ++ ys) ≡ (map bare xs ++ map bare ys)
  joined [] ys = refl
  joined (x ∷ xs) ys = ap (λ l. bare x ∷ l) (joined xs ys)

  three : (xs ys zs us vs ws : List Position) → map bare xs ≡ us → map bare ys ≡ vs → map bare zs ≡ ws → map bare (xs ++ ys ++ zs) ≡ (us ++ vs ++ ws)
  three xs ys zs us vs ws h k l = joined (xs ++ ys) zs ∙ ap (λ m. m ++ map bare zs) (joined xs ys) ∙ (λ j. h j ++ k j ++ l j)

  pub positions_bare : map bare (positions b) ≡ position_outlines table b.contract
  positions_bare =
      three (map (obligation b Form.Obligation) b.contract.obligations) (map (obligation b Form.Surviving) b.contract.surviving) (map (power b) b.contract.powers)
      (map (obligation_outline table b.contract Form.Obligation) b.contract.obligations) (map (obligation_outline table b.contract Form.Surviving) b.contract.surviving)
      (map (power_outline table b.contract) b.contract.powers)
      (each (obligation b Form.Obligation) (obligation_outline table b.contract Form.Obligation) (bare_obligation Form.Obligation) b.contract.obligations)
      (each (obligation b Form.Surviving) (obligation_outline table b.contract Form.Surviving) (bare_obligation Form.Surviving) b.contract.surviving)
      (each (power b) (power_outline table b.contract) bare_power b.contract.powers)

  outlines_bare : map bare (position_outlines table b.contract) ≡ position_outlines table b.contract
  outlines_bare =
      let first = map (obligation_outline table b.contract Form.Obligation) b.contract.obligations in
      let second = map (obligation_outline table b.contract Form.Surviving) b.contract.surviving in
      let third = map (power_outline table b.contract) b.contract.powers in
      three first second third first second third
      (each (obligation_outline table b.contract Form.Obligation) (obligation_outline table b.contract Form.Obligation) (bare_outlined Form.Obligation) b.contract.obligations)
      (each (obligation_outline table b.contract Form.Surviving) (obligation_outline table b.contract Form.Surviving) (bare_outlined Form.Surviving) b.contract.surviving)
      (each (power_outline table b.contract) (power_outline table b.contract) bare_power_outlined b.contract.powers)

  -- the forms of the positions are those of the outline
  bare_forms : (ps : List Position) → map (λ (p : Position). p.form) (map bare ps) ≡ map (λ (p : Position). p.form) ps
  bare_forms [] = refl
  bare_forms (p ∷ ps) = ap (λ l. p.form ∷ l) (bare_forms ps)

  pub forms_same : map (λ (p : Position). p.form) (positions b) ≡ map (λ (p : Position). p.form) (position_outlines table b.contract)
  forms_same = sym (bare_forms (positions b)) ∙ ap (map (λ (p : Position). p.form)) positions_bare

-- ---- the deed and the outline

outline_positions : (spec : SpecTree) → (outline spec).positions ≡ position_outlines (all_names spec).table spec.contract
unfolding outline
outline_positions spec = refl

module _ (spec : SpecTree) (b : Basis) (names : b.things.domain.table ≡ (all_names spec).table) (contract : b.contract ≡ spec.contract)
    (deed : Deed) (is : deed.positions ≡ positions b) where
  outlined : position_outlines b.things.domain.table b.contract ≡ (outline spec).positions
  outlined = (λ j. position_outlines (names j) (contract j)) ∙ sym (outline_positions spec)

  same_bare : AreSameBare (outline spec) deed
  same_bare =
      ap (map bare) (sym outlined) ∙ outlines_bare b ∙ sym (positions_bare b) ∙ ap (map bare) (sym is)

  pub ordered : deed.order ≡ order_of_spec spec → IsAcyclic (numbered_needs (outline spec)) (length (nodes (outline spec))) → IsOrdered deed
  ordered listed acyclic =
      record {
        listed = listed ∙ same_order (outline spec) deed same_bare;
        complete = same_acyclic (outline spec) deed same_bare acyclic;
      }
