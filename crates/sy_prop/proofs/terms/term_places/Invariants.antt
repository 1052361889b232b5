use Rattle.std.proofs.Common.{◌≡◌, ◌++◌, drop}
use Rattle.sy_prop.specs.Machine.Terms.{places_from}
use Rattle.sy_prop.proofs.terms.term_places.Given as goal

abbrev pub invariant-loop-node : goal.invariant-loop-node
invariant-loop-node l = record {
  count : l.number ≡ l.node-index;
  rest : l.places.items ++ places_from l.number (drop l.node-index l.nodes) ≡ places_from 0 l.nodes;
}
