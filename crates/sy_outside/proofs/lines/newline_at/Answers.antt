use Rattle.sy_outside.proofs.LineLemmas.{has_newline-take_more}
use Rattle.sy_outside.proofs.lines.newline_at.Goals as goal

pub bytes-preserved : goal.bytes-preserved
bytes-preserved c = has_newline-take_more _ _ c.bytes-test.true c.bytes.invariant c.if-byte-eq10.false
