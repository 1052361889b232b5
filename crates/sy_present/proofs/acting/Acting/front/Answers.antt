use Rattle.std.proofs.Common.{◌==◌, ap, ◌∙◌}
use Rattle.sy_words.specs.declared.verb.Verb.TheVariants as Verbs
use Rattle.sy_core.specs.EventOrder.{acts, none_acts}
use Rattle.sy_present.specs.declared.acting.Behind.{Behind}
use Rattle.sy_present.specs.Machine.Behind.{stands_behind}
use Rattle.sy_present.proofs.Counted.{count_none}
use Rattle.sy_present.proofs.Firing.{same_contract_events}
use Rattle.sy_present.proofs.acting.Acting.front.Goals as goal

pub returns : goal.returns
returns c = λ deed ns acting.
    let behind : Behind = record { resumes = c.args.self.resumes == 0; suspends = c.args.self.suspends == 0; terminates = c.args.self.terminates == 0 } in
    same_contract_events (stands_behind behind) (none_acts deed ns)
    (ap (λ n. n == 0) acting.resumes ∙ count_none (acts deed Verbs.Resumes) ns)
    (ap (λ n. n == 0) acting.suspends ∙ count_none (acts deed Verbs.Suspends) ns)
    (ap (λ n. n == 0) acting.terminates ∙ count_none (acts deed Verbs.Terminates) ns)
