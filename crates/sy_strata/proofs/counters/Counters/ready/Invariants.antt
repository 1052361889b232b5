use Rattle.std.proofs.Common.{◌≡◌, ◌==◌, ◌&&◌, ℕ, get_or}
use Rattle.std.specs.Prelude.{nat_lt}
use Rattle.std.specs.Ordering.{nat_cmp}
use Rattle.std.specs.BTreeSet.{contains}
use Rattle.sy_strata.proofs.counters.Counters.ready.Given as goal

abbrev pub invariant-loop-node : goal.invariant-loop-node
invariant-loop-node l = (k : ℕ) → contains nat_cmp l.ready k ≡ (nat_lt k l.node && (get_or l.self.unmet.items k 0 == 0))
