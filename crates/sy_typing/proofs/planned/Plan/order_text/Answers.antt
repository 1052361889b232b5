use Rattle.std.proofs.lemmas.Result.{IfOk-weaker}
use Rattle.sy_typing.proofs.Kept.{kept_text}
use Rattle.sy_typing.proofs.planned.Plan.order_text.Goals as goal

pub returns : goal.returns
returns c =
    IfOk-weaker c.order_lines.result _ _
    (λ text told. kept_text _ _ c.self.view_is _ _ _ text c.self.invariant.outlined c.items.ensures c.self.invariant.ordered told)
    c.order_lines.ensures
