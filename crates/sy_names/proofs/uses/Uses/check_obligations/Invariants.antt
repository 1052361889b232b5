use Rattle.std.proofs.Common.{◌≡◌, ◌++◌, flat_map, take}
use Rattle.sy_names.specs.UnknownNames.{unknown_in_obligation}
use Rattle.sy_names.proofs.uses.Uses.check_obligations.Given as goal

abbrev pub invariant-obligation : goal.invariant-obligation
invariant-obligation l =
    l.out
    ≡ l.initial.out ++ flat_map (unknown_in_obligation l.self.scope.now l.self.visible) (take l.obligation-index l.obligations)
