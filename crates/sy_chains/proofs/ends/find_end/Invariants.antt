use Rattle.std.proofs.Common.{◌≡◌, Some}
use Rattle.sy_chains.specs.Chains.{chain_end}
use Rattle.sy_chains.specs.Machine.Walks.{up}
use Rattle.sy_chains.proofs.ends.find_end.Given as goal

abbrev pub invariant-climb : goal.invariant-climb
invariant-climb l = (up l.bases l.k l.fn.from ≡ Some l.at) × (chain_end l.bases l.fn.from ≡ chain_end l.bases l.at)
