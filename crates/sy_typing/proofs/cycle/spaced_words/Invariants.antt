use Rattle.std.proofs.Common.{◌≡◌, flat_map, take}
use Rattle.sy_typing.specs.Machine.Lines.{words_at}
use Rattle.sy_typing.proofs.cycle.spaced_words.Given as goal

abbrev pub invariant-number : goal.invariant-number
invariant-number l = l.out.items ≡ flat_map (words_at l.deed) (take l.number-index l.numbers)
