use Rattle.sy_quiet.proofs.WakeLaw.{wake_is_known}
use Rattle.sy_quiet.proofs.wake_law.wake_is_known.Goals as goal

pub returns : goal.returns
returns c = wake_is_known
