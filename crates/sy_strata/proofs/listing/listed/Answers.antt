use Rattle.std.proofs.Common.{add-one}
use Rattle.sy_strata.specs.Edges.{needs_by}
use Rattle.sy_strata.proofs.Places.{grows, stays}
use Rattle.sy_strata.proofs.Waits.{all_wait, next_is, none_next, has_room, waits_on}
use Rattle.sy_strata.proofs.listing.listed.Goals as goal

pub places-init : goal.places-init
places-init c = record {
  list = c.new-list.ensures;
  waits = rw c.new-list.ensures (all_wait c.args.n c.args.edges.now c.in_ok-counters.counters.needers.items c.in_ok-counters.counters.unmet.items c.in_ok-ready.ready c.in_ok-counters.ensures c.in_ok-ready.ensures);
}

pub returns-in_default : goal.returns-in_default
returns-in_default c =
    let p = c.places in
    let needs = needs_by c.args.edges.now in
    let none = none_next needs c.args.n p.list p.counters.needers.items p.counters.unmet.items p.ready p.invariant.waits c.in_default.ensures.none in
    stays needs c.args.n p.counter p.list p.invariant.list none c.args.n p.auto.counter-end

pub meet-requires-clause-room : goal.meet-requires-clause-room
meet-requires-clause-room c =
    let p = c.places in
    has_room (needs_by c.args.edges.now) c.args.n p.list p.counters.needers.items p.counters.unmet.items p.ready p.invariant.waits c.in-Some.node c.take_least.new.ready c.in-Some.ensures.least

pub places-preserved : goal.places-preserved
places-preserved c =
    let p = c.places in
    let needs = needs_by c.args.edges.now in
    let node = c.in-Some.node in
    let taken = c.in-Some.ensures.least in
    let found = next_is needs c.args.n p.list p.counters.needers.items p.counters.unmet.items p.ready p.invariant.waits node c.take_least.new.ready taken in
    rw (c.in_ok-push.ensures.ok, add-one, c.in_ok-meet.ensures.needers) (record {
      list = grows needs c.args.n p.counter p.list node p.invariant.list found;
      waits = waits_on needs c.args.n p.list p.counters.needers.items p.counters.unmet.items p.ready p.invariant.waits node c.take_least.new.ready taken c.meet.new.ready c.meet.new.self.unmet.items c.in_ok-meet.ensures.met;
    })
