use Rattle.std.proofs.Common.{length, sym, ap}
use Rattle.sy_core.specs.Prerequisites.{nodes_at}
use Rattle.sy_axioms_tests.specs.MeatSale.{meat_sale}
use Rattle.sy_axioms_tests.proofs.SaleNeeds.{needs_are, order_is}
use Rattle.sy_axioms_tests.proofs.sale_order.sale_is_ordered.Goals as goal

pub returns-clause-needs : goal.returns-clause-needs
returns-clause-needs c = needs_are

pub returns-clause-order : goal.returns-clause-order
returns-clause-order c = ap (nodes_at meat_sale) order_is

pub returns-clause-ordered : goal.returns-clause-ordered
returns-clause-ordered c = record { listed = sym order_is; complete = ap length order_is }
