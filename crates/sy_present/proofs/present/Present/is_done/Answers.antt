use Rattle.std.proofs.Common.{◌≡◌, ◌∙◌, not, ◌&&◌, ◌||◌, sym, ap}
use Rattle.sy_core.specs.declared.kind.Target.TheVariants as T
use Rattle.sy_core.specs.declared.state.StateOf.TheVariants.{Violation}
use Rattle.sy_core.specs.States.{same_state}
use Rattle.sy_core.specs.Conditions.{is_settled, next_state, is_remedied}
use Rattle.sy_present.proofs.StatesAfter.{settled-there}
use Rattle.sy_present.proofs.present.Present.is_done.Goals.{then-is_same_state, else-is_same_state}
use Rattle.sy_present.proofs.present.Present.is_done.Goals as goal

pub returns : goal.returns
returns c = λ h present there.
    let deed = c.args.deed.now in
    let state = c.next_state_of-state.result in
    let next = next_state h.now c.args.number c.args.position.now in
    let remedied = is_remedied deed h.now (T.Position c.args.number) in
    let same : state ≡ next = c.next_state_of-state.ensures deed h c.args.position.now c.requires present there in
    let asked : c.if-is_same_state.remedied ≡ (same_state state Violation && remedied) =
    elim c.if-is_same_state.branch [
      | then-is_same_state w ↦ w.remedied-is ∙ (w.is_remedied-remedied.ensures h present ∙ ap (λ b. b && remedied) (sym w.if-is_same_state.true ∙ c.is_same_state.ensures))
      | else-is_same_state w ↦ w.remedied-is ∙ (w.if-is_same_state.false ∙ ap (λ b. b && remedied) (sym w.if-is_same_state.false ∙ c.is_same_state.ensures))
    ] in
    c.is_settled.ensures
    ∙ (settled-there state next c.if-is_same_state.remedied remedied same asked
    ∙ ap (λ b. not b || is_settled next remedied) (sym c.if-not-is_awaited.false ∙ c.is_awaited.ensures))
