use Rattle.std.proofs.Common.{◌≡◌, ◌++◌, flat_map, take}
use Rattle.sy_literal.specs.Literals.{summand_literals}
use Rattle.sy_literal.proofs.literals.walk_summands.Given as goal

abbrev pub invariant-sum : goal.invariant-sum
invariant-sum g l =
    l.out ≡ l.initial.out ++ flat_map (summand_literals (g.L.Literals.found_literals l.literals)) (take l.sum-index l.sums)
