use Rattle.std.proofs.Common.{arith}
use Rattle.sy_parts.proofs.Counting.{phrases_counted}
use Rattle.sy_parts.proofs.counts.phrases_are_few.Goals as goal

pub returns-then-guards : goal.returns-then-guards
returns-then-guards c =
    let counts = c.of_deed-counts in
    let e = phrases_counted c.args.deed.now counts.result.propositions counts.result.guards counts.result.dates counts.ensures.propositions counts.ensures.guards counts.ensures.dates in
    grind arith
