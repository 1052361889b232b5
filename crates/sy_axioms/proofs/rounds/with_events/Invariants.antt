use Rattle.sy_axioms.specs.Machine.Ready.{IsReady}
use Rattle.sy_axioms.proofs.OneRound.{IsAfterRounds}
use Rattle.sy_axioms.proofs.rounds.with_events.Given as goal

abbrev pub invariant-loop-round : goal.invariant-loop-round
invariant-loop-round l = record {
  ready : IsReady l.deed l.before l.now;
  so_far : IsAfterRounds l.deed l.before l.fn.moment l.round l.now;
}
