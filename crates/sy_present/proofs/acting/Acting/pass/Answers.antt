use Rattle.std.proofs.Common.{◌&&◌, ◌-◌, ◌==◌, cond, ap, ◌∙◌}
use Rattle.sy_words.specs.declared.verb.Verb.TheVariants as Verbs
use Rattle.sy_core.specs.EventOrder.{acts, none_acts}
use Rattle.sy_order.specs.Nodes.{as_defined}
use Rattle.sy_present.specs.declared.acting.Behind.{Behind}
use Rattle.sy_present.specs.Machine.Behind.{stands_behind}
use Rattle.sy_present.proofs.Counted.{count_last}
use Rattle.sy_present.proofs.Firing.{same_contract_events}
use Rattle.sy_present.proofs.acting.Acting.pass.Goals as goal

pub returns-clause-behind : goal.returns-clause-behind
returns-clause-behind c = λ later acting.
    let deed = c.args.deed.now in
    let n = as_defined c.args.node in
    let resumes = count_last (acts deed Verbs.Resumes) n later c.args.self.now.resumes c.pass.new.left c.pass.result acting.resumes
    (c.pass.ensures.left ∙ ap (λ b. c.args.self.now.resumes - cond b 1 0) c.acts.ensures) (c.pass.ensures.last ∙ ap (λ b. b && (c.pass.new.left == 0)) c.acts.ensures) in
    let suspends = count_last (acts deed Verbs.Suspends) n later c.args.self.now.suspends c.pass-2.new.left c.pass-2.result acting.suspends
    (c.pass-2.ensures.left ∙ ap (λ b. c.args.self.now.suspends - cond b 1 0) c.acts-2.ensures) (c.pass-2.ensures.last ∙ ap (λ b. b && (c.pass-2.new.left == 0)) c.acts-2.ensures) in
    let terminates = count_last (acts deed Verbs.Terminates) n later c.args.self.now.terminates c.pass-3.new.left c.pass-3.result acting.terminates
    (c.pass-3.ensures.left ∙ ap (λ b. c.args.self.now.terminates - cond b 1 0) c.acts-3.ensures) (c.pass-3.ensures.last ∙ ap (λ b. b && (c.pass-3.new.left == 0)) c.acts-3.ensures) in
    let behind : Behind = record { resumes = c.pass.result; suspends = c.pass-2.result; terminates = c.pass-3.result } in
    same_contract_events (stands_behind behind) (λ verb. acts deed verb n && none_acts deed later verb) resumes suspends terminates
