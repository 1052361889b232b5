use Rattle.std.proofs.Common.{sym, ◌∙◌, subst}
use Rattle.sy_prop.specs.Standing.{StandsFor as LatchesStand}
use Rattle.sy_present.proofs.SettledPlaces.{same_states, setting_same}
use Rattle.sy_present.proofs.settle.set_state.Goals as goal

pub returns-else-not-is_same_state-clause-stands : goal.returns-else-not-is_same_state-clause-stands
returns-else-not-is_same_state-clause-stands c = λ h is stands.
    subst (LatchesStand c.args.latches.now c.args.deed.now)
    (sym (setting_same c.args.target c.args.state h (is ∙ same_states c.args.was c.args.state (sym c.if-not-is_same_state.ensures))))
    stands
