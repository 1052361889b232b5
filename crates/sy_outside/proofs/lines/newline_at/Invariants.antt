use Rattle.std.proofs.Common.{◌≡◌, take, false}
use Rattle.sy_outside.specs.Lines.{has_newline}
use Rattle.sy_outside.proofs.lines.newline_at.Given as goal

-- none of the bytes so far is a newline
abbrev pub invariant-bytes : goal.invariant-bytes
invariant-bytes l = has_newline (take l.place l.bytes) ≡ false
