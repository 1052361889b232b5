use Rattle.std.proofs.Common.{◌≡◌, map, take}
use Rattle.sy_lower.specs.Propositions.{lowered}
use Rattle.sy_lower.proofs.lowering.Lowering.postconditions.Given as goal

abbrev pub invariant-tree : goal.invariant-tree
invariant-tree l = l.list ≡ map (lowered l.self) (take l.tree-index l.self.contract.postconditions)
