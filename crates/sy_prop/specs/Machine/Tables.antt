-- A proposition as a list of nodes, each part before what it is part of, and the values of such a list.
use Rattle.std.specs.Prelude.{ℕ, ◌+◌, ◌-◌, ℤ, Bool, true, false, not, List, [], ◌∷◌, ◌++◌, length, get_or}
use Rattle.sy_base.specs.declared.time.TimeUnit.{TimeUnit}
use Rattle.sy_core.specs.declared.proposition.Prop.{Prop}
use Rattle.sy_core.specs.declared.proposition.Prop.TheOpen.{Prop-F}
use Rattle.sy_core.specs.declared.proposition.Prop.TheOpen as P
use Rattle.sy_core.specs.declared.proposition.Prop.TheFolds.{fold-Prop}
use Rattle.sy_core.specs.declared.table.Verdict.{Verdict}
use Rattle.sy_core.specs.declared.table.Verdict.TheVariants as V
use Rattle.sy_core.specs.Propositions.{verdict_by, opposite, lesser, greater}
use Rattle.sy_atoms.specs.declared.atom.Atom.{Atom}
use Rattle.sy_quiet.specs.Histories.{History}
use Rattle.sy_atoms.specs.Machine.Atoms.{happens_of, before_of, after_of, within_of, occurs_of, holds_of, atom_verdict}
use Rattle.sy_prop.specs.declared.node.Node.{Node}
use Rattle.sy_prop.specs.declared.node.Node.TheVariants as N

-- parts that are joined one after the other: each with what stands before it, whose last node is the one before
abbrev pub chain_from : (ℕ → Node) → List (ℕ → List Node) → ℕ → List Node
chain_from join [] n = []
chain_from join (part ∷ parts) n = part n ++ join (n - 1) ∷ chain_from join parts (n + length (part n) + 1)

-- parts that are joined, behind the verdict of none
abbrev pub chain : Bool → (ℕ → Node) → List (ℕ → List Node) → ℕ → List Node
chain first join parts n = N.Const first ∷ chain_from join parts (n + 1)

module _ (unit : TimeUnit) (h : History) where
  -- the nodes of one proposition from a number on, with those of each part in its place
  abbrev pub nodes_step : Prop-F (ℕ → List Node) → ℕ → List Node
  nodes_step (P.Const b) n = N.Const b ∷ []
  nodes_step (P.Not part) n = part n ++ N.Not ∷ []
  nodes_step (P.All parts) n = chain true N.Both parts n
  nodes_step (P.Any parts) n = chain false N.Either parts n
  nodes_step (P.Happens e) n = N.Atom (happens_of unit h e) ∷ []
  nodes_step (P.Before e to) n = N.Atom (before_of unit h e to) ∷ []
  nodes_step (P.After e from) n = N.Atom (after_of unit h e from) ∷ []
  nodes_step (P.Within e from to) n = N.Atom (within_of unit h e from to) ∷ []
  nodes_step (P.Occurs s from to) n = N.Atom (occurs_of unit h s from to) ∷ []
  nodes_step (P.Holds s) n = N.Atom (holds_of unit h s) ∷ []

  -- the nodes of a proposition from a number on
  abbrev pub nodes_of_prop : Prop → ℕ → List Node
  nodes_of_prop = fold-Prop (ℕ → List Node) nodes_step

  -- the nodes of some propositions
  abbrev pub nodes_of_props : List Prop → ℕ → List Node
  nodes_of_props [] n = []
  nodes_of_props (p ∷ ps) n = nodes_of_prop p n ++ nodes_of_props ps (n + length (nodes_of_prop p n))

-- what is done to each atom
abbrev pub on_atom : (Atom → Atom) → Node → Node
on_atom f (N.Atom a) = N.Atom (f a)
on_atom f (N.Const b) = N.Const b
on_atom f N.Not = N.Not
on_atom f (N.Both k) = N.Both k
on_atom f (N.Either k) = N.Either k

-- the last value so far
abbrev pub last_of : List Verdict → Verdict
last_of values = get_or values (length values - 1) V.Open

-- a node's value, by those before it
abbrev pub node_value : ℤ → List Verdict → Node → Verdict
node_value point values (N.Const b) = verdict_by b (not b)
node_value point values N.Not = opposite (last_of values)
node_value point values (N.Both k) = lesser (get_or values k V.Open) (last_of values)
node_value point values (N.Either k) = greater (get_or values k V.Open) (last_of values)
node_value point values (N.Atom a) = atom_verdict point a

-- the values of some nodes, after those before them
abbrev pub values_from : ℤ → List Verdict → List Node → List Verdict
values_from point values [] = values
values_from point values (node ∷ nodes) = values_from point (values ++ node_value point values node ∷ []) nodes
