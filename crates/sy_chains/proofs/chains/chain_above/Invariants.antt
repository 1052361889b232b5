use Rattle.std.proofs.Common.{◌≡◌, ◌++◌, ◌-◌, length}
use Rattle.sy_chains.specs.Chains.{above, chain}
use Rattle.sy_chains.proofs.chains.chain_above.Given as goal

abbrev pub invariant-steps : goal.invariant-steps
invariant-steps l = above l.bases l.number ≡ l.out ++ chain l.bases (length l.bases - l.k) l.at
