use Rattle.sy_apart.proofs.Accepted.{names_passed, none_repeated}
use Rattle.sy_apart.proofs.Parts.{distinct_constants, distinct_declarations, distinct_names, distinct_positions}
use Rattle.sy_apart.proofs.apart_law.names_are_apart.Goals as goal

pub returns-clause-accepted : goal.returns-clause-accepted
returns-clause-accepted c = names_passed

pub returns-clause-passed : goal.returns-clause-passed
returns-clause-passed c = none_repeated

pub returns-clause-names : goal.returns-clause-names
returns-clause-names c = distinct_names

pub returns-clause-positions : goal.returns-clause-positions
returns-clause-positions c = distinct_positions

pub returns-clause-declarations : goal.returns-clause-declarations
returns-clause-declarations c = distinct_declarations

pub returns-clause-constants : goal.returns-clause-constants
returns-clause-constants c = distinct_constants
