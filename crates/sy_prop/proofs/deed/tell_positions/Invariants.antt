use Rattle.std.proofs.Common.{◌≡◌, ◌+◌, ◌≤◌, length, drop}
use Rattle.std.specs.List.{flat_map}
use Rattle.sy_prop.specs.Machine.Changes.{changed_from}
use Rattle.sy_prop.specs.Machine.Deeds.{changes_of_position}
use Rattle.sy_prop.specs.Machine.Tellings.{step_of}
use Rattle.sy_prop.proofs.deed.tell_positions.Given as goal

abbrev pub invariant-loop-position : goal.invariant-loop-position
invariant-loop-position l =
    let each = changes_of_position (step_of l.telling) in
    record {
      room : l.next + length (flat_map each (drop l.position-index l.position-items)) ≤ length l.nodes;
      count : l.next + length (flat_map each (drop l.position-index l.position-items)) ≡ length (flat_map each l.position-items);
      rest : changed_from l.next (flat_map each (drop l.position-index l.position-items)) l.nodes ≡ changed_from 0 (flat_map each l.position-items) l.fn.nodes;
    }
