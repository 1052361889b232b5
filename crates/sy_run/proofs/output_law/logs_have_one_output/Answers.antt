use Rattle.std.proofs.Common.{[]}
use Rattle.sy_run.proofs.OneOutput.{one_output}
use Rattle.sy_run.proofs.Outputs.{has_output}
use Rattle.sy_run.proofs.output_law.logs_have_one_output.Goals as goal

pub returns-clause-some : goal.returns-clause-some
returns-clause-some c = λ deed lines. has_output deed lines [] 1

pub returns-clause-one : goal.returns-clause-one
returns-clause-one c = λ deed lines text other is_refused is_other_refused. one_output deed [] 1 lines text other is_refused is_other_refused
