use Rattle.std.proofs.Common.{◌≡◌, ◌++◌, flat_map, take}
use Rattle.sy_terms.specs.Ranges.{out_of_range_give}
use Rattle.sy_terms.proofs.ranges.Ranges.check_gives.Given as goal

abbrev pub invariant-give : goal.invariant-give
invariant-give l =
    l.out
    ≡ l.initial.out ++ flat_map (out_of_range_give l.self.scope.now l.self.environment.now) (take l.give-index l.gives)
