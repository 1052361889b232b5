-- The text of a node by the name of its position.
use Rattle.std.specs.Prelude.{ℕ, List, [], ◌++◌, Option, Some, None, codes}
use Rattle.sy_core.specs.Prerequisites.{Node, Exert, Trig, Act, End, Contract}

-- the number of a node's position
abbrev pub position_of : Node → Option ℕ
position_of (Exert i) = Some i
position_of (Trig i) = Some i
position_of (Act i) = Some i
position_of (End i) = Some i
position_of Contract = None

-- a word, with a name in brackets
abbrev pub with_name : List ℕ → List ℕ → List ℕ
with_name word name = word ++ (codes "(" ++ (name ++ codes ")"))

-- the text of a node whose position has this name
abbrev pub text_with : Node → List ℕ → List ℕ
text_with (Exert i) name = with_name (codes "Exert") name
text_with (Trig i) name = with_name (codes "Trig") name
text_with (Act i) name = with_name (codes "Act") name
text_with (End i) name = with_name (codes "End") name
text_with Contract name = codes "Contract"
