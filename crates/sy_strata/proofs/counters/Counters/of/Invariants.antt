use Rattle.std.proofs.Common.{take}
use Rattle.sy_strata.specs.Machine.Counting.{AreCounted}
use Rattle.sy_strata.proofs.counters.Counters.of.Given as goal

abbrev pub invariant-loop-edge : goal.invariant-loop-edge
invariant-loop-edge l = AreCounted l.n (take l.edge-index l.edges) l.needers.items l.unmet.items
