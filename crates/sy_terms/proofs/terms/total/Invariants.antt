use Rattle.std.proofs.Common.{◌≡◌, fold, take}
use Rattle.sy_terms.specs.Terms.{plus, product}
use Rattle.sy_terms.proofs.terms.total.Given as goal

abbrev pub invariant-sum : goal.invariant-sum
invariant-sum l =
    l.number
    ≡ fold (plus l.scope l.environment) (product l.scope l.environment l.term.first) (take l.sum-index l.sum-items)
