use Rattle.std.proofs.Common.{sym, ◌∙◌, ap}
use Rattle.sy_core.specs.declared.event.Ev.TheVariants.{Inner}
use Rattle.sy_axioms.proofs.LastMoment.{last_is}
use Rattle.sy_axioms.proofs.plain.Plain.happened.Goals as goal

pub returns-in-Some-clause-last : goal.returns-in-Some-clause-last
returns-in-Some-clause-last c = λ deed narrative n stands.
    let last = last_is deed narrative n c.args.self.now.moments c.in-Some.field-0-1.now c.in-Some.moment.now (sym c.items.ensures ∙ c.in-Some.ensures.cases.0) stands.kept in
    c.happens.ensures ∙ ap (λ m. m.seen (Inner c.args.kind c.args.target)) last.1
