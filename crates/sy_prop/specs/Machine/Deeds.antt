-- What is done to the nodes of a position, and of a deed.
use Rattle.std.specs.Prelude.{List, [], ◌++◌}
use Rattle.std.specs.List.{flat_map}
use Rattle.sy_core.specs.declared.position.Goal.{Goal}
use Rattle.sy_core.specs.declared.position.Goal.TheVariants as G
use Rattle.sy_core.specs.declared.position.Position.{Position}
use Rattle.sy_core.specs.declared.deed.Deed.{Deed}
use Rattle.sy_atoms.specs.declared.atom.Atom.{Atom}
use Rattle.sy_atoms.specs.Machine.Steps.{Step}
use Rattle.sy_prop.specs.Machine.Changes.{changes_of}

module _ (step : Step) where
  abbrev pub changes_of_goal : Goal → List (Atom → Atom)
  changes_of_goal (G.Duty consequent) = changes_of step consequent
  changes_of_goal (G.Act act) = []

  abbrev pub changes_of_position : Position → List (Atom → Atom)
  changes_of_position p = changes_of step p.trigger ++ (changes_of step p.antecedent ++ changes_of_goal p.goal)

  abbrev pub changes_of_positions : Deed → List (Atom → Atom)
  changes_of_positions deed = flat_map changes_of_position deed.positions

  abbrev pub changes_of_posts : Deed → List (Atom → Atom)
  changes_of_posts deed = flat_map (changes_of step) deed.posts

  abbrev pub changes_of_deed : Deed → List (Atom → Atom)
  changes_of_deed deed = changes_of_positions deed ++ changes_of_posts deed
