use Rattle.std.proofs.Common.{◌≡◌, length}
use Rattle.sy_print.specs.CanonicalText.{stripped}
use Rattle.sy_print.proofs.canonical.writer.without_zeros.Given as goal

abbrev pub invariant-zeros : goal.invariant-zeros
invariant-zeros l = stripped l.rest ≡ stripped l.fn.digits

abbrev pub decreases-zeros : goal.decreases-zeros
decreases-zeros l = length l.rest
