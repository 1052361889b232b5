use Rattle.std.proofs.Common.{◌∙◌, ◌&&◌, sym, ap}
use Rattle.sy_core.specs.declared.state.StateOf.TheVariants.{Fulfillment}
use Rattle.sy_core.specs.States.{same_state}
use Rattle.sy_core.specs.Conditions.{next_state}
use Rattle.sy_present.proofs.present.Present.remedies.Goals as goal

pub returns-then-is_remedy : goal.returns-then-is_remedy
returns-then-is_remedy c = λ deed h made present there.
    let position = c.args.position.now in
    c.is_same_state.ensures
    ∙ (ap (λ s. same_state s Fulfillment) (c.next_state_of.ensures deed h position made present there)
    ∙ ap (λ b. b && same_state (next_state h.now c.args.number position) Fulfillment) (sym c.if-is_remedy.true ∙ c.is_remedy.ensures))
