use Rattle.std.proofs.Common.{fold, ap, ◌∙◌}
use Rattle.sy_domain.specs.Machine.Owners.{add_owner}
use Rattle.sy_domain.proofs.Owned.{owners_turn}
use Rattle.sy_domain.proofs.attributes.all_owners.Goals as goal

pub tree-preserved : goal.tree-preserved
tree-preserved c =
    let before = c.tree.owners.entries in
    owners_turn c.args.types.now c.tree.i c.index-types-i.result before c.add_owner.new.owners.entries
    c.tree-test.true c.index-types-i.is c.tree.invariant
    (c.in_ok-add_owner.ensures ∙ ap (fold (add_owner c.tree.i) before) c.own.ensures)
