use Rattle.std.proofs.Common.{◌≡◌, drop}
use Rattle.sy_core.specs.Moments.{all_added}
use Rattle.sy_atoms.proofs.Dates.{IsReached}
use Rattle.sy_atoms.proofs.sums.add_all.Given as goal

abbrev pub invariant-loop-duration : goal.invariant-loop-duration
invariant-loop-duration l = record {
  reached : IsReached l.unit l.duration-index l.sum;
  rest : all_added l.unit l.sum (drop l.duration-index l.durations) ≡ all_added l.unit l.fn.point l.durations;
}
