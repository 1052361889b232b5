use Rattle.sy_axioms_tests.proofs.CrossedNeeds.{needs_are, cycle_is}
use Rattle.sy_axioms_tests.proofs.sale_order.crossed_needs_have_a_cycle.Goals as goal

pub returns-clause-needs : goal.returns-clause-needs
returns-clause-needs c = needs_are

pub returns-clause-cycle : goal.returns-clause-cycle
returns-clause-cycle c = cycle_is
