use Rattle.std.proofs.Common.{◌≡◌, ◌++◌, flat_map, take}
use Rattle.sy_given.specs.Givens.{values_in}
use Rattle.sy_given.proofs.literals.check_each.Given as goal

abbrev pub invariant-given : goal.invariant-given
invariant-given g l =
    l.out ≡ l.initial.out ++ flat_map (g.C.ValueCheck.fails l.check) (flat_map values_in (take l.given-index l.givens))
