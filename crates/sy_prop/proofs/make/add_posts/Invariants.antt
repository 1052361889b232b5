use Rattle.std.proofs.Common.{◌≡◌, ◌++◌, length, drop}
use Rattle.sy_atoms.specs.Histories.{first_history}
use Rattle.sy_prop.specs.Machine.Tables.{nodes_of_props}
use Rattle.sy_prop.specs.Machine.Roots.{posts_from}
use Rattle.sy_prop.proofs.make.add_posts.Given as goal

abbrev pub invariant-loop-post : goal.invariant-loop-post
invariant-loop-post l =
    let nodes_of = nodes_of_props l.deed.unit (first_history l.deed.start) in
    record {
      nodes : l.nodes.items ++ nodes_of (drop l.post-index l.post-items) (length l.nodes.items) ≡ l.fn.nodes.items ++ nodes_of l.post-items (length l.fn.nodes.items);
      posts : l.posts.items ++ posts_from (length l.nodes.items) (drop l.post-index l.post-items) ≡ posts_from (length l.fn.nodes.items) l.post-items;
    }
