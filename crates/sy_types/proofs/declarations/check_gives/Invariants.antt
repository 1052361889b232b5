use Rattle.std.proofs.Common.{◌≡◌, ◌++◌, flat_map, take}
use Rattle.sy_types.specs.Declarations.{wrong_give}
use Rattle.sy_types.proofs.declarations.check_gives.Given as goal

abbrev pub invariant-give : goal.invariant-give
invariant-give l = l.out ≡ l.initial.out ++ flat_map (wrong_give l.scope l.visible l.sort) (take l.give-index l.gives)
