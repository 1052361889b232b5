use Rattle.std.proofs.Common.{◌≡◌, map, drop}
use Rattle.sy_core.specs.Moments.{up_to, first_point}
use Rattle.sy_axioms.specs.Machine.KeptMoments.{moment_of}
use Rattle.sy_axioms.specs.Machine.Presents.{moment_now, moments_to_now}
use Rattle.sy_axioms.proofs.verdict.first_point.Given as goal

abbrev pub invariant-loop-moment : goal.invariant-loop-moment
invariant-loop-moment l =
    first_point l.ev (up_to (moment_now l.present) (map moment_of (drop l.moment-index l.present.before.now))) ≡ first_point l.ev (moments_to_now l.present)
