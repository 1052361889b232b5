use Rattle.std.proofs.Common.{◌≡◌, ◌++◌, take}
use Rattle.sy_domain.proofs.members.copy_names.Given as goal

abbrev pub invariant-name : goal.invariant-name
invariant-name l = l.out ≡ l.initial.out ++ take l.name-index l.names
