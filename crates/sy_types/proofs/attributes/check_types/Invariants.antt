use Rattle.std.proofs.Common.{◌≡◌, ◌++◌, flat_map, take}
use Rattle.std.specs.List.{enumerate_from}
use Rattle.sy_types.specs.Attributes.{wrong_type}
use Rattle.sy_types.proofs.attributes.check_types.Given as goal

abbrev pub invariant-tree : goal.invariant-tree
invariant-tree l = l.out ≡ l.initial.out ++ flat_map (wrong_type l.scope) (enumerate_from 0 (take l.i l.types))
