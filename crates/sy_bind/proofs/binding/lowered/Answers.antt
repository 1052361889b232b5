use Rattle.std.proofs.Common.{◌≡◌, ℕ, List, sym, ◌∙◌, ap, subst}
use Rattle.std.specs.Prelude.{IsTrue}
use Rattle.sy_base.specs.Points.{IsDated}
use Rattle.sy_core.specs.declared.deed.Deed.{Deed}
use Rattle.sy_core.specs.Soundness.{IsSound}
use Rattle.sy_spec.specs.declared.contract.SpecTree.{SpecTree}
use Rattle.sy_events.specs.Declarations.{declared_by}
use Rattle.sy_typing.specs.Positions.{HasFewPositions}
use Rattle.sy_parts.specs.Counts.{has_few_parts}
use Rattle.sy_lower.specs.Basis.{Basis}
use Rattle.sy_lower.specs.Positions.{positions, postconditions}
use Rattle.sy_bind.specs.Deeds.{basis_of, deed_of, start_of}
use Rattle.sy_bind.proofs.Accepted.{few_positions}
use Rattle.sy_bind.proofs.SoundDeed.{sound}
use Rattle.sy_bind.proofs.Whole.{passed_on, whole}
use Rattle.sy_bind.proofs.binding.lowered.Goals as goal

pub of-lowering-requires : goal.of-lowering-requires
of-lowering-requires c =
    subst (λ (t : SpecTree). HasFewPositions t.contract) (sym c.tree-spec.ensures.tree) (few_positions c.args.plan.now c.tree-spec.ensures.sound)

-- what the propositions are turned by
basis : (c : goal.After-start) → c.of-lowering.result ≡ basis_of c.args.plan.now c.args.tree.now
basis c =
    let declared = c.in_ok-declared.ensures ∙ (λ j. declared_by (c.scope.ensures j) (c.tree-spec.ensures.tree j)) in
    let contract = ap (λ (t : SpecTree). t.contract) c.tree-spec.ensures.tree in
    λ j. record {
      things = (c.of-lowering.ensures.things ∙ c.scope-2.ensures) j;
      contract = (c.of-lowering.ensures.contract ∙ contract) j;
      environment = (c.of-lowering.ensures.environment ∙ c.requires) j;
      declared = (c.of-lowering.ensures.declared ∙ declared) j;
    }

pub returns-clause-found : goal.returns-clause-found
returns-clause-found c =
    let declared = c.in_ok-declared.ensures ∙ (λ j. declared_by (c.scope.ensures j) (c.tree-spec.ensures.tree j)) in
    let unit = ap (λ (t : SpecTree). t.contract.unit.unit) c.tree-spec.ensures.tree in
    whole c.args.plan.now c.args.tree.now _ _ _ _ _ _ _
    unit
    (passed_on c.tree-spec.result.now.contract.unit.unit c.start.result c.start.ensures.dated
    ∙ c.start.ensures.value ∙ ap (λ u. start_of u c.args.tree.now.start.text) unit)
    (ap (λ p. p.0) c.into_parts-events.ensures ∙ ap (λ d. d.events) declared)
    (ap (λ p. p.1) c.into_parts-events.ensures ∙ ap (λ d. d.choices) declared)
    (c.in_ok-positions.ensures ∙ ap positions (basis c))
    (c.in_ok-posts.ensures ∙ ap postconditions (basis c))
    (c.in_ok-order.ensures ∙ c.order.ensures)

pub returns-clause-sound : goal.returns-clause-sound
returns-clause-sound c =
    sound c.args.plan.now c.args.tree.now c.tree-spec.ensures.sound _ (returns-clause-found c)
    (subst (IsDated c.tree-spec.result.now.contract.unit.unit)
    (sym (passed_on c.tree-spec.result.now.contract.unit.unit c.start.result c.start.ensures.dated)) c.start.ensures.dated)
