use Rattle.std.proofs.Common.{count_by, is_none}
use Rattle.sy_chains.specs.Machine.Ends.{IsNoted}
use Rattle.sy_chains.proofs.ends.note_end.Given as goal

abbrev pub invariant-climb : goal.invariant-climb
invariant-climb l = IsNoted l.bases l.fn.from l.end l.initial.ends l.ends l.at

abbrev pub decreases-climb : goal.decreases-climb
decreases-climb l = count_by is_none l.ends
