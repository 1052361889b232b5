use Rattle.std.proofs.Common.{◌≡◌}
use Rattle.sy_order.proofs.needs.push_event.Goals as goal

pub returns-in_default-Position : goal.returns-in_default-Position
returns-in_default-Position c = rw c.in_default-Position.is-1 (c.push_position_event.ensures c.args.table.now)
