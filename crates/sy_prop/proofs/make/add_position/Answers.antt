use Rattle.std.proofs.Common.{◌+◌, ◌-◌, ◌∙◌, ap}
use Rattle.sy_atoms.specs.Histories.{first_history}
use Rattle.sy_prop.specs.Machine.Changes.{table_size}
use Rattle.sy_prop.specs.Machine.Roots.{after_goal}
use Rattle.sy_prop.proofs.Adding.{after_prop, after_duty}
use Rattle.sy_prop.proofs.make.add_position.Goals as goal

pub returns-clause-roots : goal.returns-clause-roots
returns-clause-roots c =
    let unit = c.args.deed.now.unit in
    let h = first_history c.args.deed.now.start in
    let p = c.args.position.now in
    let old = c.args.nodes.now.items in
    let e1 = c.count-trigger.ensures ∙ after_prop unit h p.trigger old c.add.new.nodes.items c.in_ok-add.ensures in
    let l1 = after_prop unit h p.trigger old c.add.new.nodes.items c.in_ok-add.ensures in
    let l2 = after_prop unit h p.antecedent c.add.new.nodes.items c.add-2.new.nodes.items c.in_ok-add-2.ensures ∙ ap (λ n. n + table_size p.antecedent) l1 in
    let e2 = c.count-antecedent.ensures ∙ l2 in
    let e3 = c.count.ensures ∙ (after_duty unit h p.goal c.add-2.new.nodes.items c.add_goal.new.nodes.items c.in_ok-add_goal.ensures ∙ ap (λ n. after_goal n p.goal) l2) in
    λ j. record { trigger = e1 j - 1; antecedent = e2 j - 1; consequent = e3 j - 1 }
