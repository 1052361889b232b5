use Rattle.std.proofs.Common.{◌≡◌, replicate}
use Rattle.sy_core.specs.declared.table.Verdict.TheVariants as V
use Rattle.sy_monitor.proofs.table.all_open.Given as goal

abbrev pub invariant-loop-post : goal.invariant-loop-post
invariant-loop-post l = l.verdicts ≡ replicate l._post V.Open
