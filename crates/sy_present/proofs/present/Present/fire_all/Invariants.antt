use Rattle.std.proofs.Common.{◌≡◌, drop}
use Rattle.sy_core.specs.Prerequisites.{nodes_in_order}
use Rattle.sy_core.specs.EventOrder.{event_order}
use Rattle.sy_quiet.specs.Histories.{History}
use Rattle.sy_quiet.specs.Evaluation.{firing_all}
use Rattle.sy_present.specs.Standing.{IsMadeFor, last_point}
use Rattle.sy_present.specs.Machine.Counts.{AreActing}
use Rattle.sy_present.specs.Machine.Told.{IsPresent}
use Rattle.sy_present.proofs.Firing.{Reaches}
use Rattle.sy_present.proofs.present.Present.fire_all.Given as goal

-- the nodes from this one on are those that are counted, and their events are still to be decided
abbrev pub invariant-loop-index : goal.invariant-loop-index
invariant-loop-index l =
    let rest = drop l.index (nodes_in_order l.deed) in
    record {
      made : IsMadeFor l.self l.deed;
      point : last_point l.self ≡ last_point l.fn.self;
      acting : AreActing l.left l.deed rest;
      reached : (h : History) → IsPresent l.fn.self l.deed h → Reaches l.self l.deed rest (firing_all l.deed (event_order l.deed) h);
    }
