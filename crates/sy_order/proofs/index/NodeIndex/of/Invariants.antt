use Rattle.std.proofs.Common.{◌≡◌, take}
use Rattle.sy_order.specs.Machine.Places.{forms_in, AreNumbered}
use Rattle.sy_order.proofs.index.NodeIndex.of.Given as goal

abbrev pub invariant-loop-position : goal.invariant-loop-position
invariant-loop-position l = record {
  numbered : AreNumbered l.places l.nodes;
  so_far : forms_in l.places ≡ take l.position l.forms;
}
