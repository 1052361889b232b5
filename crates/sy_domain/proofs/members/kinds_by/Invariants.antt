use Rattle.std.proofs.Common.{◌≡◌, map, take}
use Rattle.std.specs.List.{enumerate_from}
use Rattle.sy_domain.specs.Machine.Ended.{noted_kind}
use Rattle.sy_domain.proofs.members.kinds_by.Given as goal

abbrev pub invariant-tree : goal.invariant-tree
invariant-tree l = l.kinds ≡ map (noted_kind l.types l.ends) (enumerate_from 0 (take l.i l.types))
