use Rattle.std.proofs.Common.{arith}
use Rattle.sy_prop.proofs.DateTerms.{places_go_on}
use Rattle.sy_prop.proofs.terms.term_places.Goals as goal

pub loop-node-preserved : goal.loop-node-preserved
loop-node-preserved c =
    let l = c.loop-node.invariant in
    record {
      count = omega (arith, l.count);
      rest = places_go_on c.args.nodes.now c.loop-node.node-index _ c.loop-node.number c.loop-node.places.items _ _ c.loop-node-test.true c.in_ok-add_dates.ensures l.rest;
    }
