use Rattle.sy_parts.proofs.BareOrder.{same_acyclic, same_needs, same_nodes, same_order}
use Rattle.sy_parts.proofs.order_law.bare_positions_give_order.Goals as goal

pub returns-clause-nodes : goal.returns-clause-nodes
returns-clause-nodes c = same_nodes

pub returns-clause-needs : goal.returns-clause-needs
returns-clause-needs c = same_needs

pub returns-clause-order : goal.returns-clause-order
returns-clause-order c = same_order

pub returns-clause-acyclic : goal.returns-clause-acyclic
returns-clause-acyclic c = same_acyclic
