use Rattle.std.proofs.Common.{false}
use Rattle.sy_axioms.proofs.rounds.position_round.Goals as goal

pub returns : goal.returns
returns c = λ j. record {
  exerted = c.exerted.ensures j;
  triggered = c.triggered.ensures j;
  activated = c.activated.ensures j;
  resumed = c.resumed.ensures c.args.position.now j;
  suspended = c.suspended.ensures c.args.position.now j;
  fulfilled = c.fulfilled.ensures j;
  violated = c.violated.ensures j;
  expired = c.expired.ensures j;
  discharged = c.discharged.ensures j;
  terminated = c.terminated.ensures j;
  completed = false;
}
