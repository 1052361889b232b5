use Rattle.std.proofs.Common.{ap, sym, ◌∙◌}
use Rattle.sy_core.specs.Conditions.{duty_verdict}
use Rattle.sy_prop.specs.Standing.{duty_of, consequent_of}
use Rattle.sy_present.proofs.present.Present.duty_verdict.Goals as goal

pub returns-in-Duty : goal.returns-in-Duty
returns-in-Duty c = λ deed h stands is.
    let e = c.verdict.ensures deed h _ stands (ap consequent_of is ∙ ap duty_of c.in-Duty.is) in
    e ∙ sym (ap (duty_verdict deed.unit h.now h.before) c.in-Duty.is)
