use Rattle.std.proofs.Common.{◌≡◌, [], fold, take}
use Rattle.std.specs.List.{enumerate_from}
use Rattle.sy_domain.specs.Machine.Owners.{add_owners}
use Rattle.sy_domain.proofs.attributes.all_owners.Given as goal

abbrev pub invariant-tree : goal.invariant-tree
invariant-tree l = l.owners.entries ≡ fold add_owners [] (enumerate_from 0 (take l.i l.types))
