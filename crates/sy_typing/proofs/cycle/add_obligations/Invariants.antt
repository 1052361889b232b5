use Rattle.std.proofs.Common.{◌≡◌, ◌++◌, map, take}
use Rattle.sy_typing.proofs.cycle.add_obligations.Given as goal

abbrev pub invariant-tree : goal.invariant-tree
invariant-tree l = l.out ≡ l.initial.out ++ map (λ o. o.name.place) (take l.tree-index l.trees)
