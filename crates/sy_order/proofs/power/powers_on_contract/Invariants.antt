use Rattle.std.proofs.Common.{◌≡◌, ◌++◌, drop}
use Rattle.sy_core.specs.declared.kind.Target.TheVariants.{Contract}
use Rattle.sy_order.specs.Machine.Powers.{powers_from, powers_on}
use Rattle.sy_order.proofs.power.powers_on_contract.Given as goal

abbrev pub invariant-loop-number : goal.invariant-loop-number
invariant-loop-number l = l.list ++ powers_from Contract l.number (drop l.number l.positions) ≡ powers_on Contract l.positions
