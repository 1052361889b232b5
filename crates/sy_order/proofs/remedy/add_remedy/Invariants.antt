use Rattle.std.proofs.Common.{take}
use Rattle.sy_order.specs.Machine.Powers.{AreMore}
use Rattle.sy_order.specs.Machine.Remedies.{violated_by}
use Rattle.sy_order.proofs.remedy.add_remedy.Given as goal

abbrev pub invariant-loop-name : goal.invariant-loop-name
invariant-loop-name l = AreMore (λ k. violated_by l.number k (take l.name-index l.names)) l.initial.lists.items l.lists.items
