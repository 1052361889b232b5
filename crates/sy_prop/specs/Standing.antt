-- When a table of a deed's propositions stands for a history: it keeps of each atom what the history says of it.
use Rattle.std.specs.Prelude.{◌≡◌, ℤ, List, [], ◌∷◌, ◌++◌, Option, Some, None, slice_get}
use Rattle.std.specs.List.{flat_map}
use Rattle.std.specs.Option.{option_map}
use Rattle.sy_base.specs.Points.{IsDated}
use Rattle.sy_core.specs.declared.proposition.Prop.{Prop}
use Rattle.sy_core.specs.declared.position.Goal.{Goal}
use Rattle.sy_core.specs.declared.position.Goal.TheVariants as G
use Rattle.sy_core.specs.declared.position.Position.{Position}
use Rattle.sy_core.specs.declared.deed.Deed.{Deed}
use Rattle.sy_quiet.specs.Histories.{History}
use Rattle.sy_atoms.specs.Histories.{IsOrderly, first_history}
use Rattle.sy_prop.specs.Machine.Tables.{nodes_of_props}
use Rattle.sy_prop.specs.Machine.Terms.{places_from}
use Rattle.sy_prop.specs.Machine.Roots.{after_positions, roots_from, posts_from}
use Rattle.sy_prop.specs.declared.roots.Root.{Root}
use Rattle.sy_prop.specs.declared.roots.Root.TheVariants as R
use Rattle.sy_prop.specs.declared.latches.Latches.{Latches}

-- what a duty demands; an act demands nothing
abbrev pub duty_props : Goal → List Prop
duty_props (G.Duty consequent) = consequent ∷ []
duty_props (G.Act act) = []

-- the propositions of a position
abbrev pub position_props : Position → List Prop
position_props p = p.trigger ∷ p.antecedent ∷ duty_props p.goal

-- the propositions of a deed: those of the positions in their order, then the postconditions
abbrev pub props_of_deed : Deed → List Prop
props_of_deed deed = flat_map position_props deed.positions ++ deed.posts

-- what the position that is there demands, if it is a duty
abbrev pub duty_of : Goal → Option Prop
duty_of (G.Duty consequent) = Some consequent
duty_of (G.Act act) = None

abbrev pub consequent_of : Option Position → Option Prop
consequent_of None = None
consequent_of (Some p) = duty_of p.goal

-- the proposition at a place of the deed, where there is one
abbrev pub prop_at : Deed → Root → Option Prop
prop_at deed (R.Trigger i) = option_map (λ p. p.trigger) (slice_get deed.positions i)
prop_at deed (R.Antecedent i) = option_map (λ p. p.antecedent) (slice_get deed.positions i)
prop_at deed (R.Consequent i) = consequent_of (slice_get deed.positions i)
prop_at deed (R.Post j) = slice_get deed.posts j

-- the present point of latches
abbrev pub present_point : Latches → ℤ
present_point latches = latches.point

-- the latches keep of the deed's propositions what the history says of them
pub record StandsFor (latches : Latches) (deed : Deed) (h : History) : Type 0 where
  pub orderly : IsOrderly h
  pub at_point : latches.point ≡ h.now.point
  pub kept : latches.nodes.items ≡ nodes_of_props deed.unit h (props_of_deed deed) 0
  pub roots : latches.roots.items ≡ roots_from 0 deed.positions
  pub posts : latches.posts.items ≡ posts_from (after_positions 0 deed.positions) deed.posts
  pub places : latches.places.items ≡ places_from 0 (nodes_of_props deed.unit (first_history deed.start) (props_of_deed deed) 0)

-- the latches were made for the deed: they stand for it and some history, and their present point is a date
pub record IsMadeFor (latches : Latches) (deed : Deed) : Type 0 where
  pub told : History
  pub stands : StandsFor latches deed told
  pub dated : IsDated deed.unit latches.point
