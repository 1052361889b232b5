use Rattle.std.proofs.Common.{◌≡◌, ◌+◌, ◌*◌, ◌≤◌, drop}
use Rattle.sy_core.specs.Conditions.{count_events}
use Rattle.sy_axioms.proofs.rounds.count_events.Given as goal

abbrev pub invariant-loop-position : goal.invariant-loop-position
invariant-loop-position l = record {
  few : l.count ≤ 4 + 9 * l.position-index;
  rest : l.count + count_events (drop l.position-index l.position-items) ≡ count_events l.position-items + 4;
}
