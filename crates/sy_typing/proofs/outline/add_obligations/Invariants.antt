use Rattle.std.proofs.Common.{◌≡◌, ◌++◌, map, take}
use Rattle.sy_typing.specs.Outlines.{obligation_outline}
use Rattle.sy_typing.proofs.outline.add_obligations.Given as goal

abbrev pub invariant-tree : goal.invariant-tree
invariant-tree l = l.out ≡ l.initial.out ++ map (obligation_outline l.ontology.table l.contract l.form) (take l.tree-index l.trees)
