use Rattle.std.proofs.Common.{count_by, is_none}
use Rattle.sy_chains.specs.Machine.Walks.{IsWalk}
use Rattle.sy_chains.proofs.walks.climb.Given as goal

abbrev pub invariant-climb : goal.invariant-climb
invariant-climb l = IsWalk l.bases l.fn.from l.initial.marks l.marks l.at

abbrev pub decreases-climb : goal.decreases-climb
decreases-climb l = count_by is_none l.marks
