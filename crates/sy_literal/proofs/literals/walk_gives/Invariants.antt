use Rattle.std.proofs.Common.{◌≡◌, ◌++◌, flat_map, take}
use Rattle.sy_literal.specs.Literals.{give_literals}
use Rattle.sy_literal.proofs.literals.walk_gives.Given as goal

abbrev pub invariant-give : goal.invariant-give
invariant-give g l =
    l.out ≡ l.initial.out ++ flat_map (give_literals (g.L.Literals.found_literals l.literals)) (take l.give-index l.gives)
