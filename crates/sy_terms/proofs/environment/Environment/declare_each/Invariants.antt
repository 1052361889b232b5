use Rattle.std.proofs.Common.{◌≡◌, fold, take}
use Rattle.sy_terms.specs.Environments.{declare}
use Rattle.sy_terms.proofs.environment.Environment.declare_each.Given as goal

abbrev pub invariant-declaration : goal.invariant-declaration
invariant-declaration l =
    l.self ≡ fold (declare l.scope) l.initial.self (take l.declaration-index l.declarations)
