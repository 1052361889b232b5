use Rattle.std.proofs.Common.{◌≡◌, ◌++◌, flat_map, take}
use Rattle.std.specs.List.{enumerate_from}
use Rattle.sy_types.specs.Declarations.{wrong_declaration}
use Rattle.sy_types.proofs.declarations.check_declarations.Given as goal

abbrev pub invariant-declaration : goal.invariant-declaration
invariant-declaration l = l.out ≡ l.initial.out ++ flat_map (wrong_declaration l.scope) (enumerate_from 0 (take l.i l.declared))
