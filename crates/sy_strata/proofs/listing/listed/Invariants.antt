use Rattle.std.proofs.Common.{◌≡◌}
use Rattle.sy_core.specs.Orders.{first_listed}
use Rattle.sy_strata.specs.Edges.{needs_by}
use Rattle.sy_strata.proofs.Waits.{AreWaiting}
use Rattle.sy_strata.proofs.listing.listed.Given as goal

abbrev pub invariant-places : goal.invariant-places
invariant-places l = record {
  list : l.list ≡ first_listed (needs_by l.edges) l.n l.counter;
  waits : AreWaiting (needs_by l.edges) l.n l.list l.counters.needers.items l.counters.unmet.items l.ready;
}
