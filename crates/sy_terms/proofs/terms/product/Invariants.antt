use Rattle.std.proofs.Common.{◌≡◌, fold, take}
use Rattle.sy_terms.specs.Terms.{number_of, single_item, times}
use Rattle.sy_terms.proofs.terms.product.Given as goal

abbrev pub invariant-single : goal.invariant-single
invariant-single l =
    l.number
    ≡ fold (times l.scope l.environment) (number_of (single_item l.scope l.environment l.factor.first))
    (take l.single-index l.single-items)
