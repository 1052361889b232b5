use Rattle.std.proofs.Common.{◌≡◌, ◌++◌, length}
use Rattle.sy_literal.specs.Values.{text_content, unescaped}
use Rattle.sy_literal.proofs.values.content.Given as goal

abbrev pub invariant-byte : goal.invariant-byte
invariant-byte l = l.content.items ++ unescaped l.rest ≡ text_content l.text

abbrev pub decreases-byte : goal.decreases-byte
decreases-byte l = length l.rest
