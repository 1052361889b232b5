use Rattle.std.proofs.Common.{◌≡◌, ◌++◌, length, drop}
use Rattle.std.specs.List.{flat_map}
use Rattle.sy_atoms.specs.Histories.{first_history}
use Rattle.sy_prop.specs.Machine.Tables.{nodes_of_props}
use Rattle.sy_prop.specs.Machine.Roots.{roots_from}
use Rattle.sy_prop.specs.Standing.{position_props}
use Rattle.sy_prop.proofs.make.add_positions.Given as goal

abbrev pub invariant-loop-position : goal.invariant-loop-position
invariant-loop-position l =
    let nodes_of = nodes_of_props l.deed.unit (first_history l.deed.start) in
    record {
      nodes : l.nodes.items ++ nodes_of (flat_map position_props (drop l.position-index l.position-items)) (length l.nodes.items) ≡ nodes_of (flat_map position_props l.position-items) 0;
      roots : l.roots.items ++ roots_from (length l.nodes.items) (drop l.position-index l.position-items) ≡ roots_from 0 l.position-items;
    }
