-- A list of what is done to the nodes of a proposition, one after the other, and the nodes that come of it.
use Rattle.std.specs.Prelude.{ℕ, suc, ◌+◌, List, [], ◌∷◌, ◌++◌, take, drop}
use Rattle.std.specs.List.{flat_map}
use Rattle.sy_core.specs.declared.proposition.Prop.{Prop}
use Rattle.sy_core.specs.declared.proposition.Prop.TheOpen.{Prop-F}
use Rattle.sy_core.specs.declared.proposition.Prop.TheOpen as P
use Rattle.sy_core.specs.declared.proposition.Prop.TheFolds.{fold-Prop}
use Rattle.sy_atoms.specs.declared.atom.Atom.{Atom}
use Rattle.sy_atoms.specs.Machine.Steps.{Step}
use Rattle.sy_prop.specs.declared.node.Node.{Node}
use Rattle.sy_prop.specs.Machine.Tables.{on_atom}

-- nothing is done
abbrev pub stay : Atom → Atom
stay a = a

-- what is done to a part, and nothing to the node that joins it
abbrev pub and_join : List (Atom → Atom) → List (Atom → Atom)
and_join fs = fs ++ stay ∷ []

module _ (step : Step) where
  -- what is done to the nodes of one proposition, with that of each part in its place
  abbrev pub changes_step : Prop-F (List (Atom → Atom)) → List (Atom → Atom)
  changes_step (P.Const b) = stay ∷ []
  changes_step (P.Not fs) = and_join fs
  changes_step (P.All parts) = stay ∷ flat_map and_join parts
  changes_step (P.Any parts) = stay ∷ flat_map and_join parts
  changes_step (P.Happens e) = step.happens e ∷ []
  changes_step (P.Before e to) = step.before e to ∷ []
  changes_step (P.After e from) = step.after e from ∷ []
  changes_step (P.Within e from to) = step.within e from to ∷ []
  changes_step (P.Occurs s from to) = step.occurs s from to ∷ []
  changes_step (P.Holds s) = step.holds s ∷ []

  -- what is done to the nodes of a proposition
  abbrev pub changes_of : Prop → List (Atom → Atom)
  changes_of = fold-Prop (List (Atom → Atom)) changes_step

-- each of the first nodes is what is done to it; the others stay
abbrev pub changed : List (Atom → Atom) → List Node → List Node
changed [] nodes = nodes
changed (f ∷ fs) [] = []
changed (f ∷ fs) (node ∷ nodes) = on_atom f node ∷ changed fs nodes

-- so from a number on
abbrev pub changed_from : ℕ → List (Atom → Atom) → List Node → List Node
changed_from at fs nodes = take at nodes ++ changed fs (drop at nodes)

-- how many nodes one proposition has, with those of each part in its place
abbrev pub joined_size : List ℕ → ℕ
joined_size [] = 0
joined_size (n ∷ ns) = n + 1 + joined_size ns

abbrev pub table_size_step : Prop-F ℕ → ℕ
table_size_step (P.Const b) = 1
table_size_step (P.Not n) = n + 1
table_size_step (P.All ns) = suc (joined_size ns)
table_size_step (P.Any ns) = suc (joined_size ns)
table_size_step (P.Happens e) = 1
table_size_step (P.Before e to) = 1
table_size_step (P.After e from) = 1
table_size_step (P.Within e from to) = 1
table_size_step (P.Occurs s from to) = 1
table_size_step (P.Holds s) = 1

-- how many nodes a proposition has
abbrev pub table_size : Prop → ℕ
table_size = fold-Prop ℕ table_size_step
