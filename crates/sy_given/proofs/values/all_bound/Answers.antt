use Rattle.std.proofs.Common.{◌≡◌, [], ◌∷◌, ◌++◌, map, take, sym, ap, ◌∙◌}
use Rattle.std.proofs.lemmas.List.{map_more}
use Rattle.sy_given.specs.Bound.{bound_or_nothing, bound_value}
use Rattle.sy_given.proofs.values.all_bound.Goals as goal

pub parameter-preserved : goal.parameter-preserved
parameter-preserved c =
    let s = c.args.scope.now in
    let value = bound_value s c.args.unit c.args.givens.now in
    let xs = c.args.parameters.now in
    let i = c.parameter.parameter-index in
    let x = c.parameter-item.result in
    let b = c.in_ok-bound_to.field-0 in
    let is = c.in_ok-bound_to.ensures ∙ ap (bound_or_nothing s c.args.unit) c.first_named-given.ensures
    ∙ ap value c.parameter-item.is in
    c.in_ok-push.ensures.ok
    ∙ ap (λ values. values ++ b ∷ []) c.parameter.invariant
    ∙ ap (λ last. map value (take i xs) ++ last ∷ []) is
    ∙ sym (map_more value xs i x c.parameter-test.true)
