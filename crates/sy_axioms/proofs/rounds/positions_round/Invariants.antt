use Rattle.std.proofs.Common.{◌≡◌, ◌++◌, drop}
use Rattle.sy_axioms.specs.Machine.KeptMoments.{fired_from}
use Rattle.sy_axioms.specs.Machine.Presents.{moment_now, moments_before}
use Rattle.sy_axioms.proofs.rounds.positions_round.Given as goal

abbrev pub invariant-loop-position : goal.invariant-loop-position
invariant-loop-position l = record {
  number : l.number ≡ l.position-index;
  rest : l.fired ++ fired_from l.present.deed.now (moment_now l.present) (moments_before l.present) l.number (drop l.position-index l.position-items) ≡ fired_from l.present.deed.now (moment_now l.present) (moments_before l.present) 0 l.position-items;
}
