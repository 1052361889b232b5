use Rattle.std.proofs.Common.{ℕ, [], get_or, replicate, length, subst, sym}
use Rattle.std.proofs.lemmas.List.{get_or-replicate}
use Rattle.sy_core.proofs.Listing.{AllBelow}
use Rattle.sy_order.specs.Machine.Remedies.{remedy_of}
use Rattle.sy_order.proofs.Filling.{none_filled, more_filled, all_filled}
use Rattle.sy_order.proofs.Remedying.{none_ends_in, none_below, below_grows}
use Rattle.sy_order.proofs.remedy.remedies.Goals as goal

pub loop-number-init : goal.loop-number-init
loop-number-init c =
    rw c.in_ok-lists.ensures (record {
      filled = none_filled (λ k n. remedy_of n.0 k n.1) c.args.positions.now;
      below = none_below (length c.args.positions.now);
    })

pub add_if_remedy-requires : goal.add_if_remedy-requires
add_if_remedy-requires c = none_ends_in c.loop-number.number c.loop-number.lists.items c.loop-number.invariant.below

pub loop-number-preserved : goal.loop-number-preserved
loop-number-preserved c =
    let l = c.loop-number in
    let p = c.index-positions-number in
    let more = c.in_ok-add_if_remedy.ensures in
    record {
      filled = more_filled (λ k n. remedy_of n.0 k n.1) c.args.positions.now l.number p.result l.lists.items c.add_if_remedy.new.lists.items c.loop-number-test.true p.is more l.invariant.filled;
      below = below_grows l.number p.result l.lists.items c.add_if_remedy.new.lists.items more l.invariant.below;
    }

pub returns : goal.returns
returns c = all_filled (λ k n. remedy_of n.0 k n.1) c.args.positions.now c.loop-number.number c.loop-number.lists.items c.loop-number-test.false c.loop-number.invariant.filled
