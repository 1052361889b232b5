use Rattle.std.proofs.Common.{◌≡◌, ◌++◌, drop}
use Rattle.sy_order.specs.Nodes.{forms_of}
use Rattle.sy_order.proofs.index.forms_of.Given as goal

abbrev pub invariant-loop-position : goal.invariant-loop-position
invariant-loop-position l = l.forms ++ forms_of (drop l.position-index l.positions) ≡ forms_of l.positions
