use Rattle.std.proofs.Common.{rules}
use Rattle.sy_time.proofs.Ranges.{IsDated-point_or_fault}
use Rattle.sy_time.proofs.date.read_date.Goals as goal

pub returns-clause-dated : goal.returns-clause-dated
returns-clause-dated c = search (rules, IsDated-point_or_fault)
