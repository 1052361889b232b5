use Rattle.std.proofs.Common.{◌≡◌, ◌++◌, drop}
use Rattle.sy_report.specs.ReportText as text
use Rattle.sy_report.proofs.report.add_positions.Given as goal

-- what was added and what the rest gives are all the lines
abbrev pub invariant-positions : goal.invariant-positions
invariant-positions l =
    l.out.items ++ text.position_lines (drop l.i l.positions) (drop l.i l.states)
    ≡ l.initial.out.items ++ text.position_lines l.positions l.states
