use Rattle.std.proofs.Common.{◌≡◌, map, drop}
use Rattle.sy_core.specs.Moments.{up_to, seen_ever}
use Rattle.sy_axioms.specs.Machine.KeptMoments.{moment_of}
use Rattle.sy_axioms.specs.Machine.Presents.{moment_now, moments_to_now}
use Rattle.sy_axioms.proofs.verdict.seen_ever.Given as goal

abbrev pub invariant-loop-moment : goal.invariant-loop-moment
invariant-loop-moment l =
    seen_ever l.ev (up_to (moment_now l.present) (map moment_of (drop l.moment-index l.present.before.now))) ≡ seen_ever l.ev (moments_to_now l.present)
