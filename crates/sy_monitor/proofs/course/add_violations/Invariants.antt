use Rattle.std.proofs.Common.{◌≡◌, ◌++◌, drop}
use Rattle.sy_core.specs.Moments.{Moment}
use Rattle.sy_core.specs.Tables.{is_violated, marks_at}
use Rattle.sy_monitor.specs.Machine.Coming.{Tells}
use Rattle.sy_monitor.proofs.course.add_violations.Given as goal

-- what was added and what the rest gives are all the marks
abbrev pub invariant-loop-position : goal.invariant-loop-position
invariant-loop-position l = record {
  number : l.number ≡ l._position-index;
  told : (m : Moment) → Tells l.core l.deed m → l.point ≡ m.point
      → l.marks ++ marks_at is_violated m l.number (drop l._position-index l._position-items)
      ≡ l.initial.marks ++ marks_at is_violated m 0 l._position-items;
}
