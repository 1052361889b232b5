use Rattle.std.proofs.Common.{◌≡◌, ◌+◌, ◌≤◌, ◌∷◌, suc, length, drop}
use Rattle.std.specs.List.{flat_map}
use Rattle.sy_prop.specs.Machine.Changes.{stay, changed_from}
use Rattle.sy_prop.specs.Machine.Tellings.{step_of}
use Rattle.sy_prop.proofs.Changing.{part_changes}
use Rattle.sy_prop.proofs.walk.+tell.Given as goal

abbrev pub decreases-tell : goal.decreases-tell
decreases-tell l = goal.size-tell l

abbrev pub invariant-loop-part : goal.invariant-loop-part
invariant-loop-part l =
    let each = part_changes (step_of l.telling) in
    record {
      room : l.next + length (flat_map each (drop l.part-index l.part-items)) ≤ length l.nodes;
      count : l.next + length (flat_map each (drop l.part-index l.part-items)) ≡ l.fn.at + suc (length (flat_map each l.part-items));
      rest : changed_from l.next (flat_map each (drop l.part-index l.part-items)) l.nodes ≡ changed_from l.fn.at (stay ∷ flat_map each l.part-items) l.fn.nodes;
    }

abbrev pub invariant-loop-part-2 : goal.invariant-loop-part-2
invariant-loop-part-2 l =
    let each = part_changes (step_of l.telling) in
    record {
      room : l.next + length (flat_map each (drop l.part-index l.part-items)) ≤ length l.nodes;
      count : l.next + length (flat_map each (drop l.part-index l.part-items)) ≡ l.fn.at + suc (length (flat_map each l.part-items));
      rest : changed_from l.next (flat_map each (drop l.part-index l.part-items)) l.nodes ≡ changed_from l.fn.at (stay ∷ flat_map each l.part-items) l.fn.nodes;
    }
