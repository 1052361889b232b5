use Rattle.std.proofs.Common.{take}
use Rattle.sy_strata.specs.Machine.Ways.{AreLeast}
use Rattle.sy_strata.proofs.cycle.least_needs.Given as goal

abbrev pub invariant-loop-edge : goal.invariant-loop-edge
invariant-loop-edge l = AreLeast l.n (take l.edge-index l.edges) l.remains l.least.items
