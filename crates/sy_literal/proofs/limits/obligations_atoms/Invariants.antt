use Rattle.std.proofs.Common.{◌≡◌, ◌-◌, ◌^◌, flat_map, min, take}
use Rattle.std.specs.List.{sum_by}
use Rattle.sy_scope.specs.Walks.{obligation_propositions}
use Rattle.sy_literal.specs.Limits.{atoms}
use Rattle.sy_literal.proofs.limits.obligations_atoms.Given as goal

abbrev pub invariant-obligation : goal.invariant-obligation
invariant-obligation l =
    l.count ≡ min (sum_by atoms (flat_map obligation_propositions (take l.obligation-index l.obligations))) (2 ^ 64 - 1)
