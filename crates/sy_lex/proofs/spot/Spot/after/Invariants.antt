use Rattle.std.proofs.Common.{◌≡◌, take}
use Rattle.sy_lex.specs.Tokens.{spot_after}
use Rattle.sy_lex.proofs.spot.Spot.after.Given as goal

abbrev pub invariant-bytes : goal.invariant-bytes
invariant-bytes l = l.spot ≡ spot_after l.fn.self (take l.byte-index l.bytes)
