use Rattle.std.proofs.Common.{◌≡◌, ◌++◌, flat_map, take}
use Rattle.sy_types.specs.Terms.{wrong_summand}
use Rattle.sy_types.proofs.terms.check_summands.Given as goal

abbrev pub invariant-sum : goal.invariant-sum
invariant-sum l = l.out ≡ l.initial.out ++ flat_map (wrong_summand l.scope l.visible) (take l.sum-index l.sums)
