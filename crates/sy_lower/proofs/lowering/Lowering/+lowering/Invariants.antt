use Rattle.std.proofs.Common.{◌≡◌, map, take}
use Rattle.sy_lower.specs.Propositions.{lowered}
use Rattle.sy_lower.proofs.lowering.Lowering.+lowering.Given as goal

abbrev pub invariant-each-part : goal.invariant-each-part
invariant-each-part l = l.list ≡ map (lowered l.self) (take l.part-index l.parts)
