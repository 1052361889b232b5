use Rattle.std.proofs.Common.{◌≡◌, take}
use Rattle.sy_bind.proofs.binding.copied.Given as goal

abbrev pub invariant-number : goal.invariant-number
invariant-number l = l.list ≡ take l.number-index l.numbers
