use Rattle.std.proofs.Common.{take}
use Rattle.sy_strata.specs.Machine.Counting.{AreMet}
use Rattle.sy_strata.proofs.counters.meet_each.Given as goal

abbrev pub invariant-loop-needer : goal.invariant-loop-needer
invariant-loop-needer l = AreMet (take l.needer-index l.needers) l.initial.unmet.items l.unmet.items l.initial.ready l.ready
