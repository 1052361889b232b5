use Rattle.std.proofs.Common.{◌≡◌, ◌-◌, length, nat_eq}
use Rattle.std.specs.List.{list_any}
use Rattle.sy_chains.specs.Chains.{above, chain}
use Rattle.sy_chains.proofs.chains.is_above.Given as goal

abbrev pub invariant-steps : goal.invariant-steps
invariant-steps l =
    list_any (nat_eq l.to) (above l.bases l.fn.from)
    ≡ list_any (nat_eq l.to) (chain l.bases (length l.bases - l.k) l.at)
