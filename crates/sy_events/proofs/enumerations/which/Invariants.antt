use Rattle.std.proofs.Common.{◌≡◌, map, take}
use Rattle.sy_events.specs.Enumerations.{is_enumeration}
use Rattle.sy_events.proofs.enumerations.which.Given as goal

abbrev pub invariant-tree : goal.invariant-tree
invariant-tree l = l.meant ≡ map is_enumeration (take l.tree-index l.types)
