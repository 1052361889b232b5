use Rattle.sy_domain.specs.Machine.Marked.{marked_name}
use Rattle.sy_base.proofs.Numbered.{flat_map_turn}
use Rattle.sy_domain.proofs.chains.check_all.Goals as goal

pub tree-preserved : goal.tree-preserved
tree-preserved c =
    flat_map_turn (marked_name c.args.cyclic.now) c.args.out.now c.args.types.now
    c.tree.i c.index-types-i.result c.tree-test.true c.index-types-i.is
    c.tree.out c.check_type.new.out c.tree.invariant c.in_ok-check_type.ensures
