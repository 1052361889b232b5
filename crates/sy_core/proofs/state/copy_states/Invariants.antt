use Rattle.std.proofs.Common.{◌≡◌, take}
use Rattle.sy_core.proofs.state.copy_states.Given as goal

abbrev pub invariant-loop-state : goal.invariant-loop-state
invariant-loop-state l = l.copied ≡ take l.state-index l.states
