use Rattle.std.proofs.Common.{◌≡◌, ◌+◌, ◌≤◌, length, drop}
use Rattle.std.specs.List.{flat_map}
use Rattle.sy_prop.specs.Machine.Changes.{changes_of, changed_from}
use Rattle.sy_prop.specs.Machine.Tellings.{step_of}
use Rattle.sy_prop.proofs.deed.tell_posts.Given as goal

abbrev pub invariant-loop-post : goal.invariant-loop-post
invariant-loop-post l =
    let each = changes_of (step_of l.telling) in
    record {
      room : l.next + length (flat_map each (drop l.post-index l.post-items)) ≤ length l.nodes;
      count : l.next + length (flat_map each (drop l.post-index l.post-items)) ≡ l.fn.at + length (flat_map each l.post-items);
      rest : changed_from l.next (flat_map each (drop l.post-index l.post-items)) l.nodes ≡ changed_from l.fn.at (flat_map each l.post-items) l.fn.nodes;
    }
