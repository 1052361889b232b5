use Rattle.std.proofs.Common.{arith}
use Rattle.sy_order.proofs.Numbering.{numbered_few}
use Rattle.sy_order.proofs.index.NodeIndex.count.Goals as goal

pub overflow_cast-result : goal.overflow_cast-result
overflow_cast-result c = omega (arith, numbered_few c.self.inside.places c.self.inside.nodes c.self.invariant)

pub overflow_add-result : goal.overflow_add-result
overflow_add-result c = omega (arith, numbered_few c.self.inside.places c.self.inside.nodes c.self.invariant)
