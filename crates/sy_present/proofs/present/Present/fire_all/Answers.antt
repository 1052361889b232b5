use Rattle.std.proofs.Common.{◌+◌, ◌<◌, ◌≤◌, drop, length, sym, ap, subst, ◌∙◌, arith}
use Rattle.std.proofs.lemmas.List.{length-map, drop_all}
use Rattle.sy_core.specs.Prerequisites.{nodes_in_order}
use Rattle.sy_core.specs.EventOrder.{none_acts, contract_events, events_of_nodes, event_order}
use Rattle.sy_order.specs.Nodes.{as_defined}
use Rattle.sy_quiet.specs.Evaluation.{firing_all}
use Rattle.sy_present.specs.Machine.Counts.{AreActing}
use Rattle.sy_present.specs.Machine.Told.{IsPresent}
use Rattle.sy_present.proofs.Firing.{firing_append, reaches_on, Reaches}
use Rattle.sy_present.proofs.Ordered.{drop_mapped, same_length}
use Rattle.sy_present.proofs.present.Present.fire_all.Goals as goal

pub loop-index-init : goal.loop-index-init
loop-index-init c =
    let deed = c.args.deed.now in
    let ns = nodes_in_order deed in
    let front = c.front.ensures deed ns c.requires.made.acting in
    record {
      made = c.fire_behind.ensures.made;
      point = c.fire_behind.ensures.point;
      acting = c.requires.made.acting;
      reached = λ h present. (
        _,
        c.fire_behind.ensures.present h present,
        ap (λ events. firing_all deed (events_of_nodes deed ns) (firing_all deed events h)) front ∙ sym (firing_append deed (contract_events (none_acts deed ns)) (events_of_nodes deed ns) h),
      );
    }

pub index-node-requires : goal.index-node-requires
index-node-requires c =
    let same = same_length as_defined _ _ _ c.loop-index.invariant.made.order c.fire_behind.ensures.made.order in
    omega (arith, same, c.loop-index.self.order.ok.0, c.fire_behind.new.self.order.ok.0, c.len-index-end.ensures, c.loop-index-test.true)

pub fire_node-requires-clause-made : goal.fire_node-requires-clause-made
fire_node-requires-clause-made c = c.loop-index.invariant.made

pub loop-index-preserved : goal.loop-index-preserved
loop-index-preserved c =
    let deed = c.args.deed.now in
    let node = c.index-node.result.now in
    let k = c.loop-index.index in
    let later = drop (k + 1) (nodes_in_order deed) in
    let same = same_length as_defined _ _ _ c.loop-index.invariant.made.order c.fire_behind.ensures.made.order in
    let inside : k < length c.loop-index.self.order.items = omega (arith, same, c.fire_behind.new.self.order.ok.0, c.len-index-end.ensures, c.loop-index-test.true) in
    let first = drop_mapped as_defined c.loop-index.self.order.items (nodes_in_order deed) k node inside c.loop-index.invariant.made.order c.index-node.ensures in
    let acting = subst (AreActing c.loop-index.left deed) first c.loop-index.invariant.acting in
    record {
      made = c.fire_node.ensures.made;
      point = c.fire_node.ensures.point ∙ c.loop-index.invariant.point;
      acting = c.fire_node.ensures.left later acting;
      reached = λ h present.
          let end = firing_all deed (event_order deed) h in
          reaches_on deed c.loop-index.self c.fire_node.new.self (as_defined node) later end (c.fire_node.ensures.present later acting) (subst (λ ns. Reaches c.loop-index.self deed ns end) first (c.loop-index.invariant.reached h present));
    }

pub returns-clause-made : goal.returns-clause-made
returns-clause-made c = c.loop-index.invariant.made

pub returns-clause-point : goal.returns-clause-point
returns-clause-point c = c.loop-index.invariant.point

pub returns-clause-present : goal.returns-clause-present
returns-clause-present c = λ h present.
    let deed = c.args.deed.now in
    let past : length (nodes_in_order deed) ≤ c.loop-index.index =
    let same = sym (ap length c.fire_behind.ensures.made.order) ∙ length-map c.fire_behind.new.self.order.items as_defined in
    omega (arith, same, c.fire_behind.new.self.order.ok.0, c.len-index-end.ensures, c.loop-index-test.false) in
    let reached = c.loop-index.invariant.reached h present in
    subst (IsPresent c.loop-index.self deed)
    (ap (λ ns. firing_all deed (events_of_nodes deed ns) reached.0) (sym (drop_all c.loop-index.index (nodes_in_order deed) past)) ∙ reached.2)
    reached.1
