use Rattle.std.proofs.Common.{length, ◌-◌, ◌≡◌, ◌≤◌, take}
use Rattle.std.specs.Option.{is_some}
use Rattle.std.specs.Io.KnownBytes.{Appends}
use Rattle.sy_outside.proofs.write.write_all.Given as goal

abbrev pub invariant-pieces : goal.invariant-pieces
invariant-pieces g l = record {
  within : l.done ≤ length l.bytes;
  bytes : Appends (g.W.Sink.held l.initial.sink) (g.W.Sink.held l.sink) (take l.done l.bytes);
  faults : g.W.Sink.faults l.sink ≡ g.W.Sink.faults l.initial.sink;
  told : is_some (g.W.Sink.held l.sink) ≡ is_some (g.W.Sink.held l.initial.sink);
}

abbrev pub decreases-pieces : goal.decreases-pieces
decreases-pieces g l = length l.bytes - l.done
