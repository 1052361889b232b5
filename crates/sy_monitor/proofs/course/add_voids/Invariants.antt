use Rattle.std.proofs.Common.{◌≡◌, ◌++◌, ◌+ℤ◌, ℕ, pos, drop}
use Rattle.sy_core.specs.Chronicle.{moment_at}
use Rattle.sy_core.specs.Tables.{is_void, marks_at}
use Rattle.sy_monitor.specs.Machine.Coming.{Tells}
use Rattle.sy_monitor.proofs.course.add_voids.Given as goal

-- what was added and what the rest gives are all the marks
abbrev pub invariant-loop-position : goal.invariant-loop-position
invariant-loop-position l = record {
  number : l.number ≡ l._position-index;
  told : (n : ℕ) → Tells l.core l.deed (moment_at l.deed l.story.happenings n) → l.point ≡ l.deed.start +ℤ pos n
      → l.marks ++ marks_at is_void (moment_at l.deed l.story.happenings n) l.number (drop l._position-index l._position-items)
      ≡ l.initial.marks ++ marks_at is_void (moment_at l.deed l.story.happenings n) 0 l._position-items;
}
