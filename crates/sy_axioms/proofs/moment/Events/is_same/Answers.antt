use Rattle.std.proofs.Common.{rules}
use Rattle.sy_axioms.proofs.Equal.{events_Decides}
use Rattle.sy_axioms.proofs.moment.Events.is_same.Goals as goal

pub returns : goal.returns
returns c = let d = events_Decides c.args.self.now c.args.other.now in search rules
