use Rattle.std.proofs.Common.{◌≡◌, drop}
use Rattle.sy_core.specs.States.{last_state}
use Rattle.sy_machines.specs.Fired.{has}
use Rattle.sy_machines.proofs.states.last_state.Given as goal

abbrev pub invariant-loop-kind : goal.invariant-loop-kind
invariant-loop-kind l =
    last_state l.form (drop l.kind-index l.kinds) (has l.fired) l.last ≡ last_state l.form l.kinds (has l.fired) l.fn.state
