use Rattle.std.proofs.Common.{◌+◌, ap}
use Rattle.sy_core.specs.Chronicle.{state_at}
use Rattle.sy_monitor.proofs.EachState.{one_more}
use Rattle.sy_monitor.proofs.table.states.Goals as goal

pub loop-position-preserved : goal.loop-position-preserved
loop-position-preserved c = record {
  number = ap (λ k. k + 1) c.loop-position.invariant.number;
  told = λ narrative n stands.
      let deed = c.args.deed.now in
      one_more (state_at deed narrative n) c.items-position-items.result.now c.loop-position._position-index c.loop-position.number c._position-item.result c.state.result
      c.loop-position.states c.push.new.self _ c.loop-position-test.true (c.state.ensures deed narrative n c.requires.made stands) c.in_ok-push.ensures.ok
      (c.loop-position.invariant.told narrative n stands);
}
