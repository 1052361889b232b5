use Rattle.std.proofs.Common.{◌≡◌, map, take, drop, ◌++◌}
use Rattle.sy_atoms.specs.Machine.Atoms.{passed_to}
use Rattle.sy_prop.specs.Machine.Tables.{on_atom}
use Rattle.sy_prop.proofs.table.pass_to.Given as goal

abbrev pub invariant-loop-node : goal.invariant-loop-node
invariant-loop-node l =
    let f = on_atom (passed_to l.point l.first l.last) in
    l.nodes ≡ map f (take l.node-index l.initial.nodes) ++ drop l.node-index l.initial.nodes
