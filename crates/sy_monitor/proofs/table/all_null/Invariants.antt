use Rattle.std.proofs.Common.{◌≡◌, replicate}
use Rattle.sy_core.specs.declared.state.StateOf.TheVariants as S
use Rattle.sy_monitor.proofs.table.all_null.Given as goal

abbrev pub invariant-loop-position : goal.invariant-loop-position
invariant-loop-position l = l.states ≡ replicate l._position S.Null
