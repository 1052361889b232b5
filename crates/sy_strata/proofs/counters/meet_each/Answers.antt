use Rattle.std.proofs.Common.{take, get_or}
use Rattle.std.proofs.lemmas.List.{take_more}
use Rattle.sy_strata.proofs.Lowering.{met_more, is_some}
use Rattle.sy_strata.proofs.counters.meet_each.Goals as goal

pub lower-requires : goal.lower-requires
lower-requires c =
    is_some c.args.needers.now c.loop-needer.needer-index c.args.unmet.now.items c.loop-needer.unmet.items c.args.ready.now c.loop-needer.ready c.loop-needer-test.true c.requires c.loop-needer.invariant

pub loop-needer-preserved : goal.loop-needer-preserved
loop-needer-preserved c =
    let needers = c.args.needers.now in
    let i = c.loop-needer.needer-index in
    let some = is_some needers i c.args.unmet.now.items c.loop-needer.unmet.items c.args.ready.now c.loop-needer.ready c.loop-needer-test.true c.requires c.loop-needer.invariant in
    rw (take_more needers i 0 c.loop-needer-test.true) (met_more (take i needers) (get_or needers i 0) c.args.unmet.now.items c.loop-needer.unmet.items c.lower.new.unmet.items c.args.ready.now c.loop-needer.ready c.lower.new.ready c.loop-needer.invariant some c.in_ok-lower.ensures)
