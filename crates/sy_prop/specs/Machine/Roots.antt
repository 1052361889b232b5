-- The numbers of the nodes of a deed's propositions.
use Rattle.std.specs.Prelude.{ℕ, zero, suc, ◌+◌, ◌-◌, List, [], ◌∷◌, Option, Some, None, slice_get}
use Rattle.sy_base.specs.declared.time.TimeUnit.{TimeUnit}
use Rattle.sy_core.specs.declared.proposition.Prop.{Prop}
use Rattle.sy_core.specs.declared.position.Goal.{Goal}
use Rattle.sy_core.specs.declared.position.Goal.TheVariants as G
use Rattle.sy_core.specs.declared.position.Position.{Position}
use Rattle.sy_core.specs.declared.deed.Deed.{Deed}
use Rattle.sy_quiet.specs.Histories.{History}
use Rattle.sy_prop.specs.declared.node.Node.{Node}
use Rattle.sy_prop.specs.Machine.Tables.{nodes_of_prop}
use Rattle.sy_prop.specs.declared.roots.Root.{Root}
use Rattle.sy_prop.specs.declared.roots.Root.TheVariants as R
use Rattle.sy_prop.specs.declared.roots.PositionRoots.{PositionRoots}
use Rattle.sy_prop.specs.Machine.Changes.{table_size}

-- the nodes of a duty; an act has none
abbrev pub nodes_of_goal : TimeUnit → History → Goal → ℕ → List Node
nodes_of_goal unit h (G.Duty consequent) n = nodes_of_prop unit h consequent n
nodes_of_goal unit h (G.Act act) n = []

-- the number behind the nodes of a duty that begin with a number; an act has none
abbrev pub after_goal : ℕ → Goal → ℕ
after_goal n (G.Duty consequent) = n + table_size consequent
after_goal n (G.Act act) = n

-- the number behind the nodes of a position
abbrev pub after_position : ℕ → Position → ℕ
after_position n p = after_goal ((n + table_size p.trigger) + table_size p.antecedent) p.goal

-- the number behind the nodes of some positions
abbrev pub after_positions : ℕ → List Position → ℕ
after_positions n [] = n
after_positions n (p ∷ ps) = after_positions (after_position n p) ps

-- the last nodes of a position's propositions
abbrev pub roots_at : ℕ → Position → PositionRoots
roots_at n p = record {
  trigger = n + table_size p.trigger - 1;
  antecedent = (n + table_size p.trigger) + table_size p.antecedent - 1;
  consequent = after_position n p - 1;
}

-- those of some positions
abbrev pub roots_from : ℕ → List Position → List PositionRoots
roots_from n [] = []
roots_from n (p ∷ ps) = roots_at n p ∷ roots_from (after_position n p) ps

-- the last nodes of some propositions
abbrev pub posts_from : ℕ → List Prop → List ℕ
posts_from n [] = []
posts_from n (p ∷ ps) = (n + table_size p - 1) ∷ posts_from (n + table_size p) ps

abbrev pub root_by : (PositionRoots → ℕ) → Option PositionRoots → ℕ
root_by which None = 0
root_by which (Some roots) = which roots

abbrev pub or_first : Option ℕ → ℕ
or_first None = 0
or_first (Some root) = root

-- the node of the proposition at a place of the deed
abbrev pub root_of : Deed → Root → ℕ
root_of deed (R.Trigger i) = root_by (λ r. r.trigger) (slice_get (roots_from 0 deed.positions) i)
root_of deed (R.Antecedent i) = root_by (λ r. r.antecedent) (slice_get (roots_from 0 deed.positions) i)
root_of deed (R.Consequent i) = root_by (λ r. r.consequent) (slice_get (roots_from 0 deed.positions) i)
root_of deed (R.Post j) = or_first (slice_get (posts_from (after_positions 0 deed.positions) deed.posts) j)

-- the number of the node of proposition number k, where the first begins with number n
abbrev pub root_from : List Prop → ℕ → ℕ → ℕ
root_from [] n k = n
root_from (p ∷ ps) n zero = n + table_size p - 1
root_from (p ∷ ps) n (suc k) = root_from ps (n + table_size p) k
