use Rattle.std.proofs.Common.{◌≡◌, ◌+◌, length}
use Rattle.sy_lex.specs.Machine.Cutting.{string_step}
use Rattle.sy_lex.proofs.string.string.Given as goal

abbrev pub invariant-content : goal.invariant-content
invariant-content l = record {
  read : string_step l.left l.at l.rest ≡ string_step 256 1 l.initial.rest;
  size : l.at + length l.rest ≡ length l.initial.rest + 1;
}

abbrev pub decreases-content : goal.decreases-content
decreases-content l = length l.rest
