use Rattle.std.proofs.Common.{◌≡◌, ◌++◌, flat_map, take}
use Rattle.sy_scope.specs.Walks.{finds, obligation_propositions}
use Rattle.sy_scope.proofs.walk.walk_obligations.Given as goal

abbrev pub invariant-obligation : goal.invariant-obligation
invariant-obligation g l = l.out ≡ l.initial.out ++ flat_map (finds (g.L.Leaves.found l.leaves)) (flat_map obligation_propositions (take l.obligation-index l.obligations))
