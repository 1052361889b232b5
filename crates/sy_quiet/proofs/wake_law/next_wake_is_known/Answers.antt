use Rattle.sy_quiet.proofs.NextWake.{none_wakes, next_wake}
use Rattle.sy_quiet.proofs.wake_law.next_wake_is_known.Goals as goal

pub returns-clause-none : goal.returns-clause-none
returns-clause-none c = none_wakes

pub returns-clause-next : goal.returns-clause-next
returns-clause-next c = next_wake
