use Rattle.sy_core.specs.declared.kind.Target.TheVariants.{Position}
use Rattle.sy_order.specs.Machine.Powers.{power_on}
use Rattle.sy_order.proofs.Filling.{none_filled, more_filled, all_filled}
use Rattle.sy_order.proofs.power.powers_on_positions.Goals as goal

pub loop-number-init : goal.loop-number-init
loop-number-init c = rw c.in_ok-lists.ensures (none_filled (λ k n. power_on (Position k) n.0 n.1.goal) c.args.positions.now)

pub loop-number-preserved : goal.loop-number-preserved
loop-number-preserved c =
    let l = c.loop-number in
    more_filled (λ k n. power_on (Position k) n.0 n.1.goal) c.args.positions.now l.number c.index-positions-number.result l.lists.items c.add_to_its_target.new.lists.items c.loop-number-test.true c.index-positions-number.is c.in_ok-add_to_its_target.ensures l.invariant

pub returns : goal.returns
returns c = all_filled (λ k n. power_on (Position k) n.0 n.1.goal) c.args.positions.now c.loop-number.number c.loop-number.lists.items c.loop-number-test.false c.loop-number.invariant
