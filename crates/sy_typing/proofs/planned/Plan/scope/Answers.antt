use Rattle.sy_typing.proofs.Kept.{kept_things}
use Rattle.sy_typing.proofs.planned.Plan.scope.Goals as goal

pub returns : goal.returns
returns c = kept_things _ _ c.self.view_is _ c.self.invariant.named
