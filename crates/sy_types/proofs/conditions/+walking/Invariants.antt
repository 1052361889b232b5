use Rattle.std.proofs.Common.{◌≡◌, ◌++◌, flat_map, map, take}
use Rattle.sy_types.specs.Conditions.{other_atoms}
use Rattle.sy_types.proofs.conditions.+walking.Given as goal

abbrev pub invariant-find_each-part : goal.invariant-find_each-part
invariant-find_each-part l =
    l.out ≡ l.initial.out ++ flat_map (λ part. part) (map other_atoms (take l.part-index l.parts))
