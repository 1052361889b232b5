use Rattle.std.proofs.Common.{◌≡◌, ◌++◌, ◌∷◌, [], ◌+◌, ◌-◌, length, drop, sym, ◌∙◌, ap}
use Rattle.sy_atoms.specs.Histories.{first_history}
use Rattle.sy_prop.specs.Machine.Tables.{nodes_of_prop, nodes_of_props}
use Rattle.sy_prop.specs.Machine.Roots.{posts_from}
use Rattle.sy_prop.proofs.Adding.{item_ahead, prop_goes_on, after_prop, posts_go_on}
use Rattle.sy_prop.proofs.make.add_posts.Goals as goal

pub loop-post-preserved : goal.loop-post-preserved
loop-post-preserved c =
    let unit = c.args.deed.now.unit in
    let h = first_history c.args.deed.now.start in
    let l = c.loop-post.invariant in
    let items = c.items-post-items.result.now in
    let i = c.loop-post.post-index in
    let x = c.post-item.result in
    let nodes = c.loop-post.nodes.items in
    let added = c.add.new.nodes.items in
    let posts = c.loop-post.posts.items in
    let rest = drop (i + 1) items in
    let ahead = item_ahead items i x c.loop-post-test.true c.post-item.is in
    let made : added ≡ nodes ++ nodes_of_prop unit h x (length nodes) = c.in_ok-add.ensures in
    let ends = c.in_ok-push.ensures.items ∙ ap (λ n. posts ++ (n - 1) ∷ []) c.count.ensures in
    record {
      nodes = prop_goes_on unit h x rest nodes added _ made (ap (λ l. nodes ++ nodes_of_props unit h l (length nodes)) (sym ahead) ∙ l.nodes);
      posts = posts_go_on x rest (length nodes) (length added) posts c.push.new.self.items _ (after_prop unit h x nodes added made) ends (ap (λ l. posts ++ posts_from (length nodes) l) (sym ahead) ∙ l.posts);
    }
