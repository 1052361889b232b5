-- The nodes of positions by their forms, and the number of each.
use Rattle.std.specs.Prelude.{ℕ, List, [], ◌∷◌, ◌++◌, map}
use Rattle.std.specs.List.{enumerate_from, flat_map, position_or_len}
use Rattle.sy_words.specs.declared.form.Form.{Form}
use Rattle.sy_core.specs.declared.position.Position.{Position}
use Rattle.sy_core.specs.Prerequisites.{same_node, nodes_of}
use Rattle.sy_core.specs.Prerequisites as defined
use Rattle.sy_order.specs.declared.node.Node.{Node}
use Rattle.sy_order.specs.declared.node.Node.TheVariants as N

-- the node of the definitions that a node stands for
abbrev pub as_defined : Node → defined.Node
as_defined (N.Exert i) = defined.Exert i
as_defined (N.Trig i) = defined.Trig i
as_defined (N.Act i) = defined.Act i
as_defined (N.End i) = defined.End i
as_defined N.Contract = defined.Contract

-- the nodes of the positions of these forms from number i on
abbrev pub nodes_from : ℕ → List Form → List defined.Node
nodes_from i forms = flat_map (λ n. nodes_of n.1 n.0) (enumerate_from i forms)

-- the nodes of positions of these forms and of the contract, by number
abbrev pub nodes_by : List Form → List defined.Node
nodes_by forms = nodes_from 0 forms ++ defined.Contract ∷ []

-- the number of a node among them; of one that isn't there it is their count
abbrev pub number_by : List Form → defined.Node → ℕ
number_by forms node = position_or_len (same_node node) (nodes_by forms)

-- the forms of positions
abbrev pub forms_of : List Position → List Form
forms_of positions = map (λ p. p.form) positions
