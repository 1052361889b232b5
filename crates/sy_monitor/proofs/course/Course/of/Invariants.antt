use Rattle.std.proofs.Common.{pos, ◌+ℤ◌, ◌-ℤ◌, nat_abs}
use Rattle.sy_point.specs.Standing.{next_point}
use Rattle.sy_monitor.specs.Machine.Coming.{IsUnderWay}
use Rattle.sy_monitor.proofs.course.Course.of.Given as goal

abbrev pub invariant-loop-point : goal.invariant-loop-point
invariant-loop-point g l = IsUnderWay l.course l.deed l.story.happenings l.last l.initial.steps l.steps

abbrev pub decreases-loop-point : goal.decreases-loop-point
decreases-loop-point g l = nat_abs ((l.last +ℤ pos 1) -ℤ next_point l.course.core)
