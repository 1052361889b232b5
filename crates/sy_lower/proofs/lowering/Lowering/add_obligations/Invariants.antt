use Rattle.std.proofs.Common.{◌≡◌, ◌++◌, map, take}
use Rattle.sy_lower.specs.Positions.{obligation}
use Rattle.sy_lower.proofs.lowering.Lowering.add_obligations.Given as goal

abbrev pub invariant-tree : goal.invariant-tree
invariant-tree l = l.out ≡ l.initial.out ++ map (obligation l.self l.form) (take l.tree-index l.trees)
