use Rattle.std.proofs.Common.{◌≡◌, ◌++◌, flat_map, take}
use Rattle.sy_names.specs.Paths.{unknown_in_summand}
use Rattle.sy_names.proofs.uses.Uses.check_summands.Given as goal

abbrev pub invariant-sum : goal.invariant-sum
invariant-sum l =
    l.out ≡ l.initial.out ++ flat_map (unknown_in_summand l.self.scope.now l.self.visible) (take l.sum-index l.sums)
