use Rattle.std.proofs.Common.{◌≡◌, ◌++◌, drop}
use Rattle.sy_events.specs.Numbers.{numbers_from}
use Rattle.sy_events.proofs.numbers.numbers.Given as goal

abbrev pub invariant-thing : goal.invariant-thing
invariant-thing l = l.numbers ++ numbers_from l.next (drop l.is_meant-index l.meant) ≡ numbers_from 0 l.meant
