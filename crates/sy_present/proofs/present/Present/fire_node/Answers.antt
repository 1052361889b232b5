use Rattle.std.proofs.Common.{sym, subst, ap, ◌∙◌}
use Rattle.sy_core.specs.EventOrder.{node_events}
use Rattle.sy_order.specs.Nodes.{as_defined}
use Rattle.sy_quiet.specs.Evaluation.{firing_all}
use Rattle.sy_present.specs.Machine.Told.{IsPresent}
use Rattle.sy_present.proofs.Firing.{firing_append}
use Rattle.sy_present.proofs.present.Present.fire_node.Goals as goal

pub returns-clause-present : goal.returns-clause-present
returns-clause-present c = λ later acting h present.
    let deed = c.args.deed.now in
    let events = node_events deed (as_defined c.args.node) in
    let behind = c.pass-behind.ensures.behind later acting in
    subst (IsPresent c.fire_behind.new.self deed)
    (ap (λ more. firing_all deed more (firing_all deed events h)) behind ∙ sym (firing_append deed events _ h))
    (c.fire_behind.ensures.present _ (c.fire_events.ensures.present h present))
