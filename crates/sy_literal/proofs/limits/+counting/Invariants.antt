use Rattle.std.proofs.Common.{◌≡◌, ◌-◌, ◌^◌, map, min, take}
use Rattle.std.specs.List.{sum}
use Rattle.sy_literal.specs.Limits.{atoms}
use Rattle.sy_literal.proofs.limits.+counting.Given as goal

abbrev pub invariant-atoms_of_all-part : goal.invariant-atoms_of_all-part
invariant-atoms_of_all-part l = l.count ≡ min (sum (map atoms (take l.part-index l.parts))) (2 ^ 64 - 1)
