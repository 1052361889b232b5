use Rattle.std.proofs.Common.{ℕ, [], get_or}
use Rattle.sy_core.proofs.Listing.{AllBelow}
use Rattle.sy_order.specs.Machine.Remedies.{remedy_of}
use Rattle.sy_order.proofs.Filling.{AreFilled}
use Rattle.sy_order.proofs.remedy.remedies.Given as goal

abbrev pub invariant-loop-number : goal.invariant-loop-number
invariant-loop-number l = record {
  filled : AreFilled (λ k n. remedy_of n.0 k n.1) l.positions l.number l.lists.items;
  below : (k : ℕ) → AllBelow l.number (get_or l.lists.items k []);
}
