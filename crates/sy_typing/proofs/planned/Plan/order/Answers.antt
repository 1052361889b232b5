use Rattle.sy_typing.proofs.Kept.{kept_order}
use Rattle.sy_typing.proofs.planned.Plan.order.Goals as goal

pub returns : goal.returns
returns c = kept_order _ _ c.self.view_is _ _ c.items.ensures c.self.invariant.ordered
