use Rattle.std.proofs.Common.{◌≡◌, ◌++◌, flat_map, take}
use Rattle.sy_names.specs.Declarations.{unknown_in_give}
use Rattle.sy_names.proofs.uses.Uses.check_gives.Given as goal

abbrev pub invariant-give : goal.invariant-give
invariant-give l =
    l.out ≡ l.initial.out ++ flat_map (unknown_in_give l.self.scope.now l.self.visible l.sort) (take l.give-index l.gives)
