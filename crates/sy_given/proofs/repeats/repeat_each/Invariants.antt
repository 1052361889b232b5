use Rattle.std.proofs.Common.{◌≡◌, ◌++◌, flat_map, take}
use Rattle.sy_given.specs.BoundNames.{repeated_fields}
use Rattle.sy_given.proofs.repeats.repeat_each.Given as goal

abbrev pub invariant-given : goal.invariant-given
invariant-given l = l.out ≡ l.initial.out ++ flat_map repeated_fields (take l.given-index l.givens)
