use Rattle.std.proofs.Common.{◌≡◌, ◌+◌, ◌-◌, ◌^◌, List, ℕ, Some}
use Rattle.sy_run.specs.Machine.Stream.{IsReady, SoFar}
use Rattle.sy_run.proofs.stream.stream.Given as goal

abbrev pub invariant-lines : goal.invariant-lines
invariant-lines g l = record {
  ready : IsReady l.reader l.log.lines;
  read : g.S.Source.faults l.input ≡ g.S.Source.faults l.initial.input;
  written : g.W.Sink.faults l.out ≡ g.W.Sink.faults l.initial.out;
  told : (bytes : List ℕ) → g.S.Source.left l.initial.input ≡ Some bytes → SoFar l.initial.log.monitor.deed l.log.monitor l.reader bytes (g.S.Source.left l.input) (g.W.Sink.held l.initial.out) (g.W.Sink.held l.out);
}

-- there are at most 2 ^ 32 lines
abbrev pub decreases-lines : goal.decreases-lines
decreases-lines g l = 2 ^ 32 + 1 - l.log.lines
