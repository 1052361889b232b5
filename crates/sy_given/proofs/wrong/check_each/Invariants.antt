use Rattle.std.proofs.Common.{◌≡◌, ◌++◌, flat_map, take}
use Rattle.sy_given.specs.BoundTypes.{wrong}
use Rattle.sy_given.proofs.wrong.check_each.Given as goal

abbrev pub invariant-given : goal.invariant-given
invariant-given l = l.out ≡ l.initial.out ++ flat_map (wrong l.scope) (take l.given-index l.givens)
