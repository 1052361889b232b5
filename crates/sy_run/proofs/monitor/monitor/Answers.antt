use Rattle.std.proofs.Common.{refl}
use Rattle.sy_run.proofs.Runs.{monitor_stops, followed_run, stopped_run}
use Rattle.sy_run.specs.Commands.{Monitor}
use Rattle.sy_run.proofs.monitor.monitor.Goals as goal

pub returns-in-Ok : goal.returns-in-Ok
returns-in-Ok g c =
    followed_run c.args.spec.now c.args.bind.now _ _ c.in-Ok.deed c.follow.result c.in-Ok.ensures.told c.follow.ensures.told c.follow.ensures.status c.in-Ok.ensures.cause c.follow.ensures.cause

pub returns-in-Err : goal.returns-in-Err
returns-in-Err g c =
    stopped_run (Monitor c.args.spec.now c.args.bind.now) _ _ (record { left = refl; faults = refl }) c.in-Err.why c.end.result (monitor_stops c.args.spec.now c.args.bind.now _ c.in-Err.why c.in-Err.ensures.told)
    c.end.ensures.ends c.in-Err.ensures.cause c.end.ensures.cause
