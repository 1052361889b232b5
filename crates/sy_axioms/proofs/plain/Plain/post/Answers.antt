use Rattle.std.proofs.Common.{◌≡◌, ◌<◌, length, Some, slice_get, refl, sym, ◌∙◌, ap, arith}
use Rattle.std.proofs.lemmas.Option.{slice_get_read}
use Rattle.sy_core.specs.Propositions.{verdict_at}
use Rattle.sy_axioms.proofs.LastMoment.{last_is}
use Rattle.sy_axioms.proofs.plain.Plain.post.Goals as goal

pub returns-in-Some-clause-last : goal.returns-in-Some-clause-last
returns-in-Some-clause-last c = λ narrative n prop stands at.
    let deed = c.args.deed.now in
    let last = last_is deed narrative n c.args.self.now.moments c.in-Some.before.now c.in-Some.moment.now (sym c.items.ensures ∙ c.in-Some.ensures.cases.0) stands.kept in
    let posts = c.items-in-Some.result.now in
    let within : c.args.number < length posts = omega (arith, ap length c.items-in-Some.ensures) in
    let found = slice_get_read posts (length posts) c.args.number c.index-items-number.result refl within c.index-items-number.is in
    let same : Some c.index-items-number.result ≡ Some prop = sym found ∙ (ap (λ xs. slice_get xs c.args.number) c.items-in-Some.ensures ∙ at) in
    let e : c.index-items-number.result ≡ prop = cc in
    c.verdict.ensures ∙ (λ j. verdict_at deed.unit (last.1 j) (last.0 j) (e j))
