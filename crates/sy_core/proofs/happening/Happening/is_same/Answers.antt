use Rattle.std.proofs.Common.{rules}
use Rattle.sy_core.proofs.Equal.{happening_Decides}
use Rattle.sy_core.proofs.happening.Happening.is_same.Goals as goal

pub returns : goal.returns
returns c = let d = happening_Decides c.args.self.now c.args.other.now in search rules
