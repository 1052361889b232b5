use Rattle.sy_core.proofs.EventOrderLaw.{order_is_of}
use Rattle.sy_passes.proofs.OnePass.{one_pass}
use Rattle.sy_passes.proofs.pass_law.one_pass_is_enough.Goals as goal

pub returns-clause-ordered : goal.returns-clause-ordered
returns-clause-ordered c = order_is_of

pub returns-clause-pass : goal.returns-clause-pass
returns-clause-pass c = one_pass
