use Rattle.std.proofs.Common.{refl}
use Rattle.sy_run.proofs.Runs.{compile_stops, compiled_run, stopped_run}
use Rattle.sy_run.specs.Commands.{Compile}
use Rattle.sy_run.proofs.compile.compile.Goals as goal

pub returns-in-Ok : goal.returns-in-Ok
returns-in-Ok g c = λ left faults.
    compiled_run c.args.spec.now _ _ c.in-Ok.plan c.write_compiled.result c.in-Ok.ensures.told c.write_compiled.ensures.ends c.write_compiled.ensures.status c.write_compiled.ensures.cause
    c.in-Ok.ensures.cause (record { left = refl; faults = refl })

pub returns-in-Err : goal.returns-in-Err
returns-in-Err g c = λ left faults.
    stopped_run (Compile c.args.spec.now) _ _ (record { left = refl; faults = refl }) c.in-Err.why c.end.result (compile_stops c.args.spec.now _ c.in-Err.why c.in-Err.ensures.told) c.end.ensures.ends
    c.in-Err.ensures.cause c.end.ensures.cause
