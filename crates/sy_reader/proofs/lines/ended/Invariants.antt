use Rattle.std.proofs.Common.{◌≡◌, ◌≤◌, ◌+◌, ◌-◌, not, length}
use Rattle.sy_lex.specs.declared.sign.Sign.TheVariants.{Semicolon}
use Rattle.sy_reader.specs.Machine.Reading.{while_at, before_at, and_more}
use Rattle.sy_reader.proofs.lines.ended.Given as goal

abbrev pub invariant-line : goal.invariant-line
invariant-line g l = record {
  fits : length l.reader + length l.items ≤ length l.initial.reader;
  read : and_more l.items (while_at (λ kind. not (g.H.Headings.is_heading kind)) (before_at g.T.Production.reading Semicolon) (length l.initial.reader - length l.items)) l.reader
      ≡ while_at (λ kind. not (g.H.Headings.is_heading kind)) (before_at g.T.Production.reading Semicolon) (length l.initial.reader) l.initial.reader;
}

abbrev pub decreases-line : goal.decreases-line
decreases-line g l = length l.reader
