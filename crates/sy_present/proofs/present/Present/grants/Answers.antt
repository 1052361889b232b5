use Rattle.std.proofs.Common.{ap, sym, ◌∙◌}
use Rattle.std.specs.Option.{option_map}
use Rattle.sy_core.specs.Propositions.{is_true, is_false}
use Rattle.sy_present.specs.Machine.Granted.{grants}
use Rattle.sy_present.proofs.present.Present.grants.Goals as goal

pub returns-else-place : goal.returns-else-place
returns-else-place c = λ deed h stands is.
    let v = c.verdict.ensures deed h _ stands (ap (option_map (λ p. p.trigger)) is) in
    let k = ap (grants deed.unit h.now h.before c.args.position.now c.args.place.now.done.triggers) c.in-Triggered.is in
    let e = ap is_true v in
    cc

pub returns-in-Activated : goal.returns-in-Activated
returns-in-Activated c = λ deed h stands is.
    let v = c.verdict-in-Activated.ensures deed h _ stands (ap (option_map (λ p. p.antecedent)) is) in
    let k = ap (grants deed.unit h.now h.before c.args.position.now c.args.place.now.done.triggers) c.in-Activated.is in
    c.is_true-in-Activated.ensures ∙ (ap is_true v ∙ sym k)

pub returns-then-is_false : goal.returns-then-is_false
returns-then-is_false c = λ deed h stands is.
    let v = c.verdict-in-Expired.ensures deed h _ stands (ap (option_map (λ p. p.antecedent)) is) in
    let k = ap (grants deed.unit h.now h.before c.args.position.now c.args.place.now.done.triggers) c.in-Expired.is in
    let e = ap is_false v in
    cc

pub returns-else-is_false : goal.returns-else-is_false
returns-else-is_false c = λ deed h stands is.
    let v = c.verdict-in-Expired.ensures deed h _ stands (ap (option_map (λ p. p.antecedent)) is) in
    let k = ap (grants deed.unit h.now h.before c.args.position.now c.args.place.now.done.triggers) c.in-Expired.is in
    let e = ap is_false v in
    cc
