use Rattle.std.proofs.Common.{◌≡◌, sym, ◌∙◌, to_z, of_z, w64}
use Rattle.std.proofs.lemmas.Int.{to_z-of_z}
use Rattle.sy_monitor.proofs.QuietMarks.{violations_quiet, voids_quiet}
use Rattle.sy_monitor.proofs.course.Course.skip_to.Goals as goal

pub returns-clause-come : goal.returns-clause-come
returns-clause-come c = λ deed narrative n m sound come at none.
    let same : to_z w64 (of_z w64 c.args.point) ≡ c.args.point = to_z-of_z w64 c.args.point c.ranges.point in
    record {
      stands = c.skip_to.ensures.stands deed narrative n m sound.ordered come.stands (same ∙ at) none;
      violations = come.violations ∙ sym (violations_quiet deed sound.ordered narrative n m none);
      voids = come.voids ∙ sym (voids_quiet deed sound.ordered narrative n m none);
    }
