use Rattle.std.proofs.Common.{◌≡◌, ◌++◌, drop}
use Rattle.sy_axioms.specs.Machine.KeptMoments.{moment_of, next_states}
use Rattle.sy_axioms.proofs.states.positions_after.Given as goal

abbrev pub invariant-loop-position : goal.invariant-loop-position
invariant-loop-position l = record {
  number : l.number ≡ l.position-index;
  rest : l.states ++ next_states (moment_of l.now) l.number (drop l.position-index l.position-items) ≡ next_states (moment_of l.now) 0 l.position-items;
}
