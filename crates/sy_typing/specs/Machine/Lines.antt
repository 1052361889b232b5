-- What is written for each number of a node, one behind the other.
use Rattle.std.specs.Prelude.{ℕ, List, [], ◌∷◌, ◌++◌, codes, slice_get}
use Rattle.std.specs.List.{flat_map}
use Rattle.sy_core.specs.declared.deed.Deed.{Deed}
use Rattle.sy_core.specs.NodeTexts.{node_text}
use Rattle.sy_core.specs.Prerequisites.{Node, node_list, nodes}
use Rattle.sy_typing.specs.Plans.{order_line}

-- the line of a node, and its text with a blank before it
abbrev pub node_line : Deed → Node → List ℕ
node_line deed node = order_line (node_text deed node)

abbrev pub node_word : Deed → Node → List ℕ
node_word deed node = codes " " ++ node_text deed node

-- the same of the node with a number, if it is there
abbrev pub order_lines_at : Deed → ℕ → List ℕ
order_lines_at deed number = flat_map (node_line deed) (node_list (slice_get (nodes deed) number))

abbrev pub words_at : Deed → ℕ → List ℕ
words_at deed number = flat_map (node_word deed) (node_list (slice_get (nodes deed) number))
