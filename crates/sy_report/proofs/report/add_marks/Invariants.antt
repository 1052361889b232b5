use Rattle.std.proofs.Common.{◌≡◌, ◌++◌, drop}
use Rattle.std.specs.List.{flat_map}
use Rattle.sy_report.specs.ReportText as text
use Rattle.sy_report.proofs.report.add_marks.Given as goal

-- what was added and what the rest gives are all the lines
abbrev pub invariant-marks : goal.invariant-marks
invariant-marks l =
    l.out.items ++ flat_map (text.mark_line l.deed l.word) (drop l.mark-index l.marks)
    ≡ l.initial.out.items ++ flat_map (text.mark_line l.deed l.word) l.marks
