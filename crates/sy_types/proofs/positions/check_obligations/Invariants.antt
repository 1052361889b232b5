use Rattle.std.proofs.Common.{◌≡◌, ◌++◌, flat_map, take}
use Rattle.sy_types.specs.Positions.{wrong_obligation}
use Rattle.sy_types.proofs.positions.check_obligations.Given as goal

abbrev pub invariant-obligation : goal.invariant-obligation
invariant-obligation l = l.out ≡ l.initial.out ++ flat_map (wrong_obligation l.scope l.visible) (take l.obligation-index l.obligations)
