use Rattle.std.proofs.Common.{◌+◌, ◌*◌}
use Rattle.sy_prop.proofs.table.+values.Given as goal

abbrev pub decreases-earlier : goal.decreases-earlier
decreases-earlier l = 2 * l.node

abbrev pub decreases-last : goal.decreases-last
decreases-last l = 2 * l.node

abbrev pub decreases-verdict : goal.decreases-verdict
decreases-verdict l = 2 * l.node + 1
