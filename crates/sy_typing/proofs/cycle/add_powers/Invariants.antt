use Rattle.std.proofs.Common.{◌≡◌, ◌++◌, map, take}
use Rattle.sy_typing.proofs.cycle.add_powers.Given as goal

abbrev pub invariant-tree : goal.invariant-tree
invariant-tree l = l.out ≡ l.initial.out ++ map (λ p. p.name.place) (take l.tree-index l.trees)
