use Rattle.std.proofs.Common.{w64}
use Rattle.std.proofs.lemmas.Int.{to_z-of_z}
use Rattle.sy_atoms.specs.Machine.Atoms.{passed_to}
use Rattle.sy_prop.specs.Machine.Tables.{on_atom}
use Rattle.sy_prop.proofs.Walking.{set_goes_on, set_is_done}
use Rattle.sy_prop.proofs.table.pass_to.Goals as goal

pub loop-node-preserved : goal.loop-node-preserved
loop-node-preserved c =
    let point_is = to_z-of_z w64 c.args.point c.ranges.point in
    let first_is = to_z-of_z w64 c.args.first c.ranges.first in
    let last_is = to_z-of_z w64 c.args.last c.ranges.last in
    let f = on_atom (passed_to c.args.point c.args.first c.args.last) in
    simp (point_is, first_is, last_is) (set_goes_on f c.args.nodes.now c.loop-node.nodes c.loop-node.node-index _ c.pass_to.new.self c.loop-node-test.true (simp (point_is, first_is, last_is) at c.loop-node.invariant) (simp (point_is, first_is, last_is) at c.pass_to.ensures))

pub returns : goal.returns
returns c =
    let point_is = to_z-of_z w64 c.args.point c.ranges.point in
    let first_is = to_z-of_z w64 c.args.first c.ranges.first in
    let last_is = to_z-of_z w64 c.args.last c.ranges.last in
    let f = on_atom (passed_to c.args.point c.args.first c.args.last) in
    set_is_done f c.args.nodes.now c.loop-node.nodes c.loop-node.node-index c.loop-node-test.false (simp (point_is, first_is, last_is) at c.loop-node.invariant)
