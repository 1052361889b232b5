use Rattle.std.proofs.Common.{◌≡◌, [], replicate}
use Rattle.sy_order.proofs.power.empty_lists.Given as goal

abbrev pub invariant-lists : goal.invariant-lists
invariant-lists g l = l.lists.items ≡ replicate l.counter []
