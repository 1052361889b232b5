use Rattle.std.proofs.Common.{◌≡◌, ◌++◌, map, take}
use Rattle.sy_typing.specs.Outlines.{power_outline}
use Rattle.sy_typing.proofs.outline.add_powers.Given as goal

abbrev pub invariant-tree : goal.invariant-tree
invariant-tree l = l.out ≡ l.initial.out ++ map (power_outline l.ontology.table l.contract) (take l.tree-index l.trees)
