use Rattle.sy_types.specs.Attributes.{wrong_type}
use Rattle.sy_base.proofs.Numbered.{flat_map_turn}
use Rattle.sy_types.proofs.attributes.check_types.Goals as goal

pub tree-preserved : goal.tree-preserved
tree-preserved c =
    flat_map_turn (wrong_type c.args.scope.now) c.args.out.now c.args.types.now
    c.tree.i c.index-types-i.result c.tree-test.true c.index-types-i.is
    c.tree.out c.check_type.new.out c.tree.invariant c.in_ok-check_type.ensures
