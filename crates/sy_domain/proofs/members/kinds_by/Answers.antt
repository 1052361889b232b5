use Rattle.sy_domain.specs.Machine.Ended.{noted_kind}
use Rattle.sy_domain.proofs.EachValue.{value_turn}
use Rattle.sy_domain.proofs.members.kinds_by.Goals as goal

pub tree-preserved : goal.tree-preserved
tree-preserved c =
    value_turn (noted_kind c.args.types.now c.args.ends.now) c.tree.kinds c.push.new.self c.kind_of.result
    c.args.types.now c.tree.i c.index-types-i.result c.tree-test.true c.index-types-i.is c.tree.invariant
    c.in_ok-push.ensures.ok c.kind_of.ensures
