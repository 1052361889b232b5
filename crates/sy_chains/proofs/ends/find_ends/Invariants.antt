use Rattle.sy_chains.specs.Machine.Ends.{AreNoted}
use Rattle.sy_chains.proofs.ends.find_ends.Given as goal

abbrev pub invariant-types : goal.invariant-types
invariant-types l = AreNoted l.bases l.from l.ends.items
