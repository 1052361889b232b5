use Rattle.std.proofs.Common.{◌≡◌, map, take}
use Rattle.sy_domain.specs.Ontologies.{own_members}
use Rattle.sy_domain.proofs.members.all_owned.Given as goal

abbrev pub invariant-tree : goal.invariant-tree
invariant-tree l =
    map (λ m. m.entries) l.tables.items ≡ map (own_members l.names.table) (take l.tree-index l.types)
