use Rattle.std.proofs.Common.{◌≡◌, ◌++◌, flat_map, take}
use Rattle.sy_literal.proofs.literals.walk_singles.Given as goal

abbrev pub invariant-single : goal.invariant-single
invariant-single g l =
    l.out ≡ l.initial.out ++ flat_map (g.L.Literals.found_literals l.literals).single (take l.single-index l.singles)
