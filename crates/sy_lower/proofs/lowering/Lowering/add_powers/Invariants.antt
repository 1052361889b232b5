use Rattle.std.proofs.Common.{◌≡◌, ◌++◌, map, take}
use Rattle.sy_lower.specs.Positions.{power}
use Rattle.sy_lower.proofs.lowering.Lowering.add_powers.Given as goal

abbrev pub invariant-tree : goal.invariant-tree
invariant-tree l = l.out ≡ l.initial.out ++ map (power l.self) (take l.tree-index l.trees)
