use Rattle.std.proofs.Common.{refl, arith}
use Rattle.sy_axioms.proofs.OneRound.{before_rounds, after_next, settled_moment, last_moment}
use Rattle.sy_axioms.proofs.rounds.with_events.Goals as goal

pub loop-round-init : goal.loop-round-init
loop-round-init c = record {
  ready = record { few = c.requires.few; sound = c.requires.sound; before_dated = c.requires.before_dated; now_dated = c.requires.now_dated };
  so_far = rw c.none.ensures (before_rounds c.args.deed.now c.args.before.now c.args.moment _ refl);
}

pub loop-round-preserved : goal.loop-round-preserved
loop-round-preserved c =
    let ready = c.loop-round.invariant.ready in
    record {
      ready = record { few = ready.few; sound = ready.sound; before_dated = ready.before_dated; now_dated = ready.now_dated };
      so_far = after_next c.args.deed.now c.args.before.now c.args.moment c.loop-round.round c.loop-round.now c.loop-round.invariant.so_far c.in_ok-events.events c.in_ok-events.ensures;
    }

pub returns-then-is_same-clause-moment : goal.returns-then-is_same-clause-moment
returns-then-is_same-clause-moment c =
    settled_moment c.args.deed.now c.args.before.now c.args.moment c.loop-round.round c.loop-round.now c.loop-round.invariant.so_far c.count_events-count.result c.in_ok-events.events (omega arith) c.count_events-count.ensures c.in_ok-events.ensures (c.is_same.ensures.0 c.if-is_same.true)

pub returns-clause-moment : goal.returns-clause-moment
returns-clause-moment c =
    last_moment c.args.deed.now c.args.before.now c.args.moment c.loop-round.round c.loop-round.now c.loop-round.invariant.so_far (omega (arith, c.count_events-count.ensures))
