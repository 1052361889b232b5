use Rattle.std.proofs.Common.{false, get_or, sym, arith}
use Rattle.std.specs.declared.option.Option.TheVariants.{Some, None}
use Rattle.sy_strata.proofs.Finding.{found_is}
use Rattle.sy_strata.proofs.cycle.first_that_remains.Goals as goal

pub returns-then-remains-node : goal.returns-then-remains-node
returns-then-remains-node c =
    sym (found_is (λ node. get_or c.args.remains.now node false) c.args.n (Some c.loop-node.node) (omega arith, c.if-remains-node.true, c.loop-node.invariant))

pub returns : goal.returns
returns c =
    sym (found_is (λ node. get_or c.args.remains.now node false) c.args.n None (λ q lt. c.loop-node.invariant q (omega (arith, lt))))
