use Rattle.std.proofs.Common.{◌≡◌, ◌≤◌, length}
use Rattle.sy_reader.specs.Machine.Reading.{each_behind, and_more}
use Rattle.sy_reader.proofs.production.more.Given as goal

abbrev pub invariant-item : goal.invariant-item
invariant-item g l = record {
  within : length l.reader ≤ length l.initial.reader;
  read : and_more l.items (each_behind l.sign g.T.Production.reading l.left) l.reader ≡ and_more l.initial.items (each_behind l.sign g.T.Production.reading l.initial.left) l.initial.reader;
}

abbrev pub decreases-item : goal.decreases-item
decreases-item g l = l.left
