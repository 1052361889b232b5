-- The text of a node: Exert(NAME), Trig(NAME), Act(NAME) or End(NAME) with its position's name, and Contract.
use Rattle.std.specs.Prelude.{ℕ, List, [], ◌++◌, Option, Some, None, slice_get, codes}
use Rattle.sy_core.specs.declared.position.Position.{Position}
use Rattle.sy_core.specs.declared.deed.Deed.{Deed}
use Rattle.sy_core.specs.Prerequisites.{Node, Exert, Trig, Act, End, Contract}

-- the name of the position that is there
abbrev pub name_of : Option Position → List ℕ
name_of None = []
name_of (Some p) = p.name

-- a word, with a position's name in brackets
abbrev pub of_position : List ℕ → Option Position → List ℕ
of_position word p = word ++ (codes "(" ++ (name_of p ++ codes ")"))

-- a node's text
abbrev pub node_text : Deed → Node → List ℕ
node_text deed (Exert i) = of_position (codes "Exert") (slice_get deed.positions i)
node_text deed (Trig i) = of_position (codes "Trig") (slice_get deed.positions i)
node_text deed (Act i) = of_position (codes "Act") (slice_get deed.positions i)
node_text deed (End i) = of_position (codes "End") (slice_get deed.positions i)
node_text deed Contract = codes "Contract"
