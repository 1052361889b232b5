use Rattle.std.proofs.Common.{◌≡◌, ◌++◌, flat_map, map, take}
use Rattle.sy_literal.specs.Consequents.{each_holds}
use Rattle.sy_literal.proofs.consequents.+holding.Given as goal

abbrev pub invariant-find_each-part : goal.invariant-find_each-part
invariant-find_each-part l =
    l.out ≡ l.initial.out ++ flat_map (λ part. part) (map each_holds (take l.part-index l.parts))
