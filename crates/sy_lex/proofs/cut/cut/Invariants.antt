use Rattle.std.proofs.Common.{◌≡◌, length}
use Rattle.sy_lex.specs.Machine.Room.{HasRoom}
use Rattle.sy_lex.specs.Machine.Cutting.{cut_at, cut_of}
use Rattle.sy_lex.proofs.Steps.{with_front}
use Rattle.sy_lex.proofs.cut.cut.Given as goal

abbrev pub invariant-text : goal.invariant-text
invariant-text l = record {
  room : HasRoom l.spot (length l.rest);
  read : with_front l.tokens (cut_at 0 l.spot l.rest) ≡ cut_of l.source;
}

abbrev pub decreases-text : goal.decreases-text
decreases-text l = length l.rest
