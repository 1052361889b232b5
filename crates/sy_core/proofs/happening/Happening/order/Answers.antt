use Rattle.std.proofs.Common.{rules}
use Rattle.sy_core.proofs.Equal.{happening_ties}
use Rattle.sy_core.proofs.happening.Happening.order.Goals as goal

pub returns-clause-same : goal.returns-clause-same
returns-clause-same c = let ties = happening_ties c.args.self.now c.args.other.now in search rules
