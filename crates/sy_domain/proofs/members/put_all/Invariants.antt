use Rattle.std.proofs.Common.{◌≡◌, fold, take}
use Rattle.sy_domain.specs.Ontologies.{put}
use Rattle.sy_domain.proofs.members.put_all.Given as goal

abbrev pub invariant-tree : goal.invariant-tree
invariant-tree l = l.table.entries ≡ fold (put l.names.table) l.initial.table.entries (take l.tree-index l.trees)
