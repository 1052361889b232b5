use Rattle.std.proofs.Common.{◌∙◌, not, ◌&&◌, sym, ap}
use Rattle.sy_core.specs.declared.state.StateOf.TheVariants.{Null}
use Rattle.sy_core.specs.States.{same_state}
use Rattle.sy_core.specs.Conditions.{next_state}
use Rattle.sy_present.proofs.present.Present.has_begun.Goals as goal

pub returns-then-is_awaited : goal.returns-then-is_awaited
returns-then-is_awaited c = λ deed h made present there.
    let position = c.args.position.now in
    ap not c.is_same_state.ensures
    ∙ (ap (λ s. not (same_state s Null)) (c.next_state_of.ensures deed h position made present there)
    ∙ ap (λ b. b && not (same_state (next_state h.now c.args.number position) Null)) (sym c.if-is_awaited.true ∙ c.is_awaited.ensures))
