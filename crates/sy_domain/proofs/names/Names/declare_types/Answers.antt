use Rattle.sy_domain.specs.Names.{declare, names_of_type}
use Rattle.sy_base.proofs.Numbered.{fold_flat_map_turn}
use Rattle.sy_domain.proofs.names.Names.declare_types.Goals as goal

pub tree-preserved : goal.tree-preserved
tree-preserved c =
    fold_flat_map_turn declare (λ p. names_of_type p.0 p.1)
    c.args.self.now c.args.types.now c.tree.i c.index-types-i.result c.tree-test.true c.index-types-i.is
    c.tree.self c.declare_type.new.self
    c.tree.invariant
    c.in_ok-declare_type.ensures
