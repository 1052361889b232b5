use Rattle.std.proofs.Common.{◌++◌, ◌∙◌, ap, arith}
use Rattle.std.specs.List.{enumerate_from}
use Rattle.sy_order.proofs.Parts.{all_added, awaited_from, awaited_are, none_left}
use Rattle.sy_order.proofs.needs.push_completion.Goals as goal

pub returns : goal.returns
returns c =
    let l = c.loop-number in
    let items = c.positions-position-items.result.now in
    none_left c.args.table.now items l.number l.nodes _ c.loop-number-test.false l.invariant
    ∙ ap (λ more. c.args.nodes.now ++ more) (ap (awaited_from c.args.table.now 0) c.positions-position-items.ensures.positions ∙ awaited_are c.args.table.now)
