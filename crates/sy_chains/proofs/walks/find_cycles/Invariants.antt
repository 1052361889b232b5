use Rattle.sy_chains.specs.Machine.Walks.{AreWalked}
use Rattle.sy_chains.proofs.walks.find_cycles.Given as goal

abbrev pub invariant-walks : goal.invariant-walks
invariant-walks l = AreWalked l.bases l.from l.marks.items l.cyclic.items
