use Rattle.std.proofs.Common.{◌≡◌, ◌++◌, drop}
use Rattle.sy_order.proofs.Parts.{awaited_from}
use Rattle.sy_order.proofs.needs.push_completion.Given as goal

abbrev pub invariant-loop-number : goal.invariant-loop-number
invariant-loop-number l =
    l.nodes ++ awaited_from l.table l.number (drop l.number l.position-items)
    ≡ l.initial.nodes ++ awaited_from l.table 0 l.position-items
