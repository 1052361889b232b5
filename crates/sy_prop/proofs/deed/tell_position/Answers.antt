use Rattle.sy_prop.specs.Machine.Changes.{changes_of}
use Rattle.sy_prop.specs.Machine.Deeds.{changes_of_goal}
use Rattle.sy_prop.specs.Machine.Tellings.{step_of}
use Rattle.sy_prop.proofs.Changing.{three_changed}
use Rattle.sy_prop.proofs.deed.tell_position.Goals as goal

pub returns-clause-nodes : goal.returns-clause-nodes
returns-clause-nodes c =
    let step = step_of c.args.telling.now in
    let p = c.args.position.now in
    three_changed c.args.at c.tell-antecedent.result c.tell-goal.result (changes_of step p.trigger) (changes_of step p.antecedent) (changes_of_goal step p.goal) c.args.nodes.now c.tell-antecedent.new.nodes c.tell-goal.new.nodes c.tell_goal.new.nodes c.requires.room c.tell-antecedent.ensures.count c.tell-antecedent.ensures.nodes c.tell-goal.ensures.count c.tell-goal.ensures.nodes c.tell_goal.ensures.nodes
