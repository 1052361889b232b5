use Rattle.std.proofs.Common.{◌≡◌, ◌++◌, flat_map, take}
use Rattle.sy_literal.specs.Consequents.{consequent_holds}
use Rattle.sy_literal.proofs.consequents.find_in_obligations.Given as goal

abbrev pub invariant-obligation : goal.invariant-obligation
invariant-obligation l =
    l.out ≡ l.initial.out ++ flat_map consequent_holds (take l.obligation-index l.obligations)
