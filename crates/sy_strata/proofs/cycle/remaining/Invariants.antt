use Rattle.std.proofs.Common.{take}
use Rattle.sy_strata.specs.Machine.Ways.{MarksRest}
use Rattle.sy_strata.proofs.cycle.remaining.Given as goal

abbrev pub invariant-loop-node : goal.invariant-loop-node
invariant-loop-node l = MarksRest l.n (take l.node-index l.listed) l.remains.items
