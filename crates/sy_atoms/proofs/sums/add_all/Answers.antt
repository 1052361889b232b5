use Rattle.std.proofs.Common.{◌+◌, get_or, sym, ◌∙◌, ap, subst, add-one, drop-cons, arith, w64, to_z}
use Rattle.sy_base.specs.declared.time.Duration.{Duration}
use Rattle.sy_base.specs.declared.time.Measure.TheVariants.{Minutes}
use Rattle.sy_core.specs.Moments.{all_added}
use Rattle.sy_core.specs.Soundness.{is_duration_of}
use Rattle.sy_atoms.proofs.Dates.{IsReached, added_is_reached, reached_is_passed}
use Rattle.sy_atoms.proofs.Passing.{passes_within}
use Rattle.sy_atoms.proofs.sums.add_all.Goals as goal

none : Duration
none = record { count = 0; measure = Minutes }

pub loop-duration-preserved : goal.loop-duration-preserved
unfolding none
loop-duration-preserved c =
    let unit = c.args.unit in
    let xs = c.args.durations.now in
    let i = c.loop-duration.duration-index in
    let sum = to_z w64 c.loop-duration.sum-bits in
    let so_far = c.loop-duration.invariant in
    let sound = passes_within (is_duration_of unit) xs i none c.requires.sound c.loop-duration-test.true in
    let reached = subst (IsReached unit (i + 1)) (sym c.add-sum.ensures.value) (added_is_reached unit i sum (get_or xs i none) sound so_far.reached) in
    let passed = reached_is_passed unit (i + 1) c.add-sum.result (omega arith) reached in
    record {
      reached = subst (IsReached unit (i + 1)) (sym passed) reached;
      rest = rw (passed, c.add-sum.ensures.value, add-one) (ap (all_added unit sum) (sym (drop-cons xs i none c.loop-duration-test.true)) ∙ so_far.rest);
    }
