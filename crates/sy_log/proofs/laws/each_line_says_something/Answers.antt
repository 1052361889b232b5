use Rattle.sy_log.proofs.Saying.{each_line_says}
use Rattle.sy_log.proofs.laws.each_line_says_something.Goals as goal

pub returns : goal.returns
returns c = each_line_says
