use Rattle.std.proofs.Common.{◌∙◌}
use Rattle.sy_typing.proofs.Lines.{lines_by_node}
use Rattle.sy_typing.proofs.cycle.order_lines.Goals as goal

pub returns : goal.returns
returns c = c.from.ensures ∙ (c.in_ok-bytes.ensures ∙ lines_by_node c.args.deed.now c.args.order.now)
