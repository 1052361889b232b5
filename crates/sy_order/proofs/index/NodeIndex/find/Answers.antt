use Rattle.std.proofs.Common.{◌≡◌, ◌-◌, ap, sym, arith}
use Rattle.sy_core.specs.Prerequisites.{Contract}
use Rattle.sy_order.specs.Nodes.{as_defined, number_by}
use Rattle.sy_order.proofs.Numbering.{contract_is_last}
use Rattle.sy_order.proofs.index.NodeIndex.find.Goals as goal

pub returns-in-Contract : goal.returns-in-Contract
returns-in-Contract c = rw c.in-Contract.is (let e = contract_is_last c.args.self.now in omega (arith, e, c.count.ensures))
