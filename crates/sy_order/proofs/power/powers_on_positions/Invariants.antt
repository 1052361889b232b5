use Rattle.sy_core.specs.declared.kind.Target.TheVariants.{Position}
use Rattle.sy_order.specs.Machine.Powers.{power_on}
use Rattle.sy_order.proofs.Filling.{AreFilled}
use Rattle.sy_order.proofs.power.powers_on_positions.Given as goal

abbrev pub invariant-loop-number : goal.invariant-loop-number
invariant-loop-number l = AreFilled (λ k n. power_on (Position k) n.0 n.1.goal) l.positions l.number l.lists.items
