use Rattle.std.proofs.Common.{◌≡◌, None, Option, IfSome, sym, ap, subst, ◌∙◌}
use Rattle.sy_domain.specs.Failures.{first}
use Rattle.sy_given.specs.BoundNames.{missing, missing_in}
use Rattle.sy_given.proofs.Firsts.{found_turn, none_turn}
use Rattle.sy_given.proofs.missing.first_among.Goals as goal

pub returns-in-Some : goal.returns-in-Some
returns-in-Some c =
    let s = c.args.scope.now in
    let p = c.parameter-item.result in
    let here = ap (λ given. first (missing_in s p given)) (sym c.first_named-given.ensures)
    ∙ sym c.in_ok-failure.ensures.first ∙ c.in-Some.is in
    found_turn (missing s c.args.givens.now) c.args.parameters.now c.parameter.parameter-index p c.in-Some.failure
    c.parameter-test.true c.parameter-item.is c.parameter.invariant here
    (subst (λ o. IfSome o (λ failure. failure.place ≡ None)) c.in-Some.is c.in_ok-failure.ensures.nowhere)

pub parameter-preserved : goal.parameter-preserved
parameter-preserved c =
    let s = c.args.scope.now in
    let p = c.parameter-item.result in
    let here = ap (λ given. first (missing_in s p given)) (sym c.first_named-given.ensures)
    ∙ sym c.in_ok-failure.ensures.first ∙ c.in-None.is in
    none_turn (missing s c.args.givens.now) c.args.parameters.now c.parameter.parameter-index p
    c.parameter-test.true c.parameter-item.is c.parameter.invariant here
