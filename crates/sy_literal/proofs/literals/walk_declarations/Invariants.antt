use Rattle.std.proofs.Common.{◌≡◌, ◌++◌, flat_map, take}
use Rattle.sy_literal.specs.Literals.{declaration_literals}
use Rattle.sy_literal.proofs.literals.walk_declarations.Given as goal

abbrev pub invariant-declaration : goal.invariant-declaration
invariant-declaration g l =
    l.out
    ≡ l.initial.out
    ++ flat_map (declaration_literals (g.L.Literals.found_literals l.literals)) (take l.declaration-index l.declarations)
