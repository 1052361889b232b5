use Rattle.std.proofs.Common.{◌≡◌, ◌++◌, ◌∷◌, ◌+◌, ◌<◌, true, false, length, map, drop}
use Rattle.sy_prop.specs.declared.node.Node.TheVariants as N
use Rattle.sy_prop.specs.Machine.Tables.{nodes_of_prop, chain_from}
use Rattle.sy_atoms.specs.Histories.{first_history}
use Rattle.sy_prop.proofs.make.+add.Given as goal

abbrev pub decreases-add : goal.decreases-add
decreases-add l = goal.size-add l

abbrev pub invariant-loop-part : goal.invariant-loop-part
invariant-loop-part l =
    let each = nodes_of_prop l.deed.unit (first_history l.deed.start) in
    record {
      some : 0 < length l.nodes.items;
      rest : l.nodes.items ++ chain_from N.Both (map each (drop l.part-index l.part-items)) (length l.nodes.items) ≡ l.fn.nodes.items ++ N.Const true ∷ chain_from N.Both (map each l.part-items) (length l.fn.nodes.items + 1);
    }

abbrev pub invariant-loop-part-2 : goal.invariant-loop-part-2
invariant-loop-part-2 l =
    let each = nodes_of_prop l.deed.unit (first_history l.deed.start) in
    record {
      some : 0 < length l.nodes.items;
      rest : l.nodes.items ++ chain_from N.Either (map each (drop l.part-index l.part-items)) (length l.nodes.items) ≡ l.fn.nodes.items ++ N.Const false ∷ chain_from N.Either (map each l.part-items) (length l.fn.nodes.items + 1);
    }
