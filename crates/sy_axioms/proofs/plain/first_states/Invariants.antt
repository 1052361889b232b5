use Rattle.std.proofs.Common.{◌≡◌, ◌++◌, drop}
use Rattle.sy_core.specs.Chronicle.{first_state}
use Rattle.sy_core.specs.Tables.{states_of}
use Rattle.sy_axioms.proofs.plain.first_states.Given as goal

abbrev pub invariant-loop-position : goal.invariant-loop-position
invariant-loop-position l = l.states ++ states_of first_state l._position-index (drop l._position-index l._position-items) ≡ states_of first_state 0 l._position-items
