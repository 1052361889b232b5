use Rattle.sy_run.proofs.OneOutcome.{knows_of, one_outcome, some_outcome}
use Rattle.sy_run.proofs.output_law.commands_have_one_outcome.Goals as goal

pub returns-clause-some : goal.returns-clause-some
returns-clause-some c = some_outcome

pub returns-clause-known : goal.returns-clause-known
returns-clause-known c = knows_of

pub returns-clause-one : goal.returns-clause-one
returns-clause-one c = one_outcome
