use Rattle.std.proofs.Common.{◌≡◌, take, option_copied}
use Rattle.sy_domain.specs.Failures.{first}
use Rattle.sy_domain.proofs.failure.first.Given as goal

abbrev pub invariant-failure : goal.invariant-failure
invariant-failure l = option_copied l.found ≡ first (take l.failure-index l.failures)
