use Rattle.sy_strata.proofs.Walks.{IsWalking, not_come}
use Rattle.sy_strata.proofs.cycle.walk.Given as goal

abbrev pub invariant-loop-coming : goal.invariant-loop-coming
invariant-loop-coming l = IsWalking l.next l.n l.fn.first l.way l.comings.items l.coming

abbrev pub decreases-loop-coming : goal.decreases-loop-coming
decreases-loop-coming l = not_come l.comings.items
