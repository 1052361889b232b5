use Rattle.sy_monitor.proofs.SameHappenings.{tables_same}
use Rattle.sy_monitor.proofs.tables_law.tables_go_by_what_happens.Goals as goal

pub returns : goal.returns
returns c = λ deed these those date same. tables_same these those same deed date
