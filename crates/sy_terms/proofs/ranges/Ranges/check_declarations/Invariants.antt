use Rattle.std.proofs.Common.{◌≡◌, ◌++◌, flat_map, take}
use Rattle.sy_terms.specs.Ranges.{out_of_range_declaration}
use Rattle.sy_terms.proofs.ranges.Ranges.check_declarations.Given as goal

abbrev pub invariant-declaration : goal.invariant-declaration
invariant-declaration l =
    l.out
    ≡ l.initial.out
    ++ flat_map (out_of_range_declaration l.self.scope.now l.self.environment.now)
    (take l.declaration-index l.declarations)
