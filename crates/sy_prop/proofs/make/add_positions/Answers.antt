use Rattle.std.proofs.Common.{◌≡◌, ◌++◌, ◌∷◌, [], ◌+◌, length, drop, sym, ◌∙◌, ap}
use Rattle.std.specs.List.{flat_map}
use Rattle.sy_atoms.specs.Histories.{first_history}
use Rattle.sy_prop.specs.Machine.Tables.{nodes_of_props}
use Rattle.sy_prop.specs.Machine.Roots.{roots_from}
use Rattle.sy_prop.specs.Standing.{position_props}
use Rattle.sy_prop.proofs.Adding.{item_ahead, props_go_on, position_sized, roots_go_on}
use Rattle.sy_prop.proofs.make.add_positions.Goals as goal

pub loop-position-preserved : goal.loop-position-preserved
loop-position-preserved c =
    let unit = c.args.deed.now.unit in
    let h = first_history c.args.deed.now.start in
    let l = c.loop-position.invariant in
    let items = c.items-position-items.result.now in
    let i = c.loop-position.position-index in
    let x = c.position-item.result in
    let nodes = c.loop-position.nodes.items in
    let added = c.add_position.new.nodes.items in
    let roots = c.loop-position.roots.items in
    let rest = drop (i + 1) items in
    let ahead = item_ahead items i x c.loop-position-test.true c.position-item.is in
    let made : added ≡ nodes ++ nodes_of_props unit h (position_props x) (length nodes) = c.in_ok-ends.ensures.nodes in
    let ends = c.in_ok-push.ensures.items ∙ ap (λ r. roots ++ r ∷ []) c.in_ok-ends.ensures.roots in
    record {
      nodes = props_go_on unit h nodes added _ (position_props x) (flat_map position_props rest) made (ap (λ l. nodes ++ nodes_of_props unit h (flat_map position_props l) (length nodes)) (sym ahead) ∙ l.nodes);
      roots = roots_go_on x rest (length nodes) (length added) roots c.push.new.self.items _ (position_sized unit h x nodes added made) ends (ap (λ l. roots ++ roots_from (length nodes) l) (sym ahead) ∙ l.roots);
    }
