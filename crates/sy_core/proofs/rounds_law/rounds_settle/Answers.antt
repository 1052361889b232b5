use Rattle.sy_core.specs.EventOrder.{event_order}
use Rattle.sy_core.proofs.EventOrderLaw.{order_is_of}
use Rattle.sy_core.proofs.RoundsLaw.{rounds_settled, only_rounds_settled}
use Rattle.sy_core.proofs.rounds_law.rounds_settle.Goals as goal

pub returns-clause-ordered : goal.returns-clause-ordered
returns-clause-ordered c deed sound = order_is_of deed sound.ordered.complete

pub returns-clause-settled : goal.returns-clause-settled
returns-clause-settled c deed sound = rounds_settled deed (event_order deed) (order_is_of deed sound.ordered.complete)

pub returns-clause-alone : goal.returns-clause-alone
returns-clause-alone c deed sound = only_rounds_settled deed (event_order deed) (order_is_of deed sound.ordered.complete)
