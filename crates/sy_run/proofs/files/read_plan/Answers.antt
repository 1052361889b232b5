use Rattle.sy_run.proofs.Planned.{not_read, sound_or_refused}
use Rattle.sy_run.proofs.files.read_plan.Goals as goal

pub returns-in-Ok-clause-told : goal.returns-in-Ok-clause-told
returns-in-Ok-clause-told g c = λ told is.
    sound_or_refused told c.in-Ok.tree c.plan_of.result (c.in-Ok.ensures.told told is) c.plan_of.ensures.told

pub returns-in-Err-clause-told : goal.returns-in-Err-clause-told
returns-in-Err-clause-told g c = λ told is. not_read told c.in-Err.why (c.in-Err.ensures.told told is)
