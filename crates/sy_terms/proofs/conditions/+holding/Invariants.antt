use Rattle.std.proofs.Common.{◌≡◌, drop, map}
use Rattle.std.specs.List.{list_all, list_any}
use Rattle.sy_terms.specs.Conditions.{holds}
use Rattle.sy_terms.proofs.conditions.+holding.Given as goal

abbrev pub invariant-all_hold-part : goal.invariant-all_hold-part
invariant-all_hold-part l =
    let truths = map (holds l.scope l.environment) in
    list_all (λ part. part) (truths (drop l.part-index l.parts)) ≡ list_all (λ part. part) (truths l.parts)

abbrev pub invariant-any_holds-part : goal.invariant-any_holds-part
invariant-any_holds-part l =
    let truths = map (holds l.scope l.environment) in
    list_any (λ part. part) (truths (drop l.part-index l.parts)) ≡ list_any (λ part. part) (truths l.parts)
