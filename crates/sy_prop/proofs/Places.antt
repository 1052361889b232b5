-- The node at a place of a deed is that of the proposition there.
use Rattle.std.proofs.Common.{◌≡◌, ℕ, zero, suc, ◌+◌, ◌-◌, List, [], ◌∷◌, ◌++◌, Some, slice_get, refl}
use Rattle.std.specs.List.{flat_map}
use Rattle.std.specs.Option.{option_map}
use Rattle.sy_core.specs.declared.proposition.Prop.{Prop}
use Rattle.sy_core.specs.declared.position.Goal.{Goal}
use Rattle.sy_core.specs.declared.position.Goal.TheVariants as G
use Rattle.sy_core.specs.declared.position.Position.{Position}
use Rattle.sy_core.specs.declared.deed.Deed.{Deed}
use Rattle.sy_prop.specs.declared.roots.Root.{Root}
use Rattle.sy_prop.specs.declared.roots.Root.TheVariants as R
use Rattle.sy_prop.specs.Machine.Changes.{table_size}
use Rattle.sy_prop.specs.Machine.Roots.{after_goal, after_position, after_positions, roots_from, posts_from, root_by, or_first, root_of, root_from}
use Rattle.sy_prop.specs.Standing.{duty_props, position_props, props_of_deed, duty_of, consequent_of, prop_at}

-- a proposition with a number among some, whose nodes begin with a number, and the number of its node
abbrev Found : List Prop → ℕ → Prop → ℕ → Type 0
Found ps n prop root = (k : ℕ) × (slice_get ps k ≡ Some prop) × (root ≡ root_from ps n k)

abbrev props_before : List Position → List Prop → List Prop
props_before ps posts = flat_map position_props ps ++ posts

past_goal : (goal : Goal) (rest posts : List Prop) (n root : ℕ) (prop : Prop) → Found (rest ++ posts) (after_goal n goal) prop root → Found ((duty_props goal ++ rest) ++ posts) n prop root
past_goal (G.Duty consequent) rest posts n root prop found = (suc found.0, found.1, found.2)
past_goal (G.Act act) rest posts n root prop found = found

past_position : (p : Position) (ps : List Position) (posts : List Prop) (n root : ℕ) (prop : Prop) → Found (props_before ps posts) (after_position n p) prop root → Found (props_before (p ∷ ps) posts) n prop root
past_position p ps posts n root prop found =
    let f = past_goal p.goal (flat_map position_props ps) posts ((n + table_size p.trigger) + table_size p.antecedent) root prop found in
    (suc (suc f.0), f.1, f.2)

trigger_found : (ps : List Position) (posts : List Prop) (n i : ℕ) (prop : Prop) → option_map (λ p. p.trigger) (slice_get ps i) ≡ Some prop → Found (props_before ps posts) n prop (root_by (λ r. r.trigger) (slice_get (roots_from n ps) i))
trigger_found [] posts n i prop is = cc
trigger_found (p ∷ ps) posts n zero prop is = (0, is, refl)
trigger_found (p ∷ ps) posts n (suc i) prop is = past_position p ps posts n _ prop (trigger_found ps posts (after_position n p) i prop is)

antecedent_found : (ps : List Position) (posts : List Prop) (n i : ℕ) (prop : Prop) → option_map (λ p. p.antecedent) (slice_get ps i) ≡ Some prop → Found (props_before ps posts) n prop (root_by (λ r. r.antecedent) (slice_get (roots_from n ps) i))
antecedent_found [] posts n i prop is = cc
antecedent_found (p ∷ ps) posts n zero prop is = (1, is, refl)
antecedent_found (p ∷ ps) posts n (suc i) prop is = past_position p ps posts n _ prop (antecedent_found ps posts (after_position n p) i prop is)

consequent_found : (ps : List Position) (posts : List Prop) (n i : ℕ) (prop : Prop) → consequent_of (slice_get ps i) ≡ Some prop → Found (props_before ps posts) n prop (root_by (λ r. r.consequent) (slice_get (roots_from n ps) i))
consequent_found [] posts n i prop is = cc
consequent_found (p ∷ ps) posts n zero prop is =
    let f = at p.goal ((n + table_size p.trigger) + table_size p.antecedent) is in
    (suc (suc f.0), f.1, f.2)
  where
    at : (goal : Goal) (m : ℕ) → duty_of goal ≡ Some prop → Found ((duty_props goal ++ flat_map position_props ps) ++ posts) m prop (after_goal m goal - 1)
    at (G.Duty consequent) m is = (0, is, refl)
    at (G.Act act) m is = cc
consequent_found (p ∷ ps) posts n (suc i) prop is = past_position p ps posts n _ prop (consequent_found ps posts (after_position n p) i prop is)

post_root : (posts : List Prop) (n j : ℕ) (prop : Prop) → slice_get posts j ≡ Some prop → or_first (slice_get (posts_from n posts) j) ≡ root_from posts n j
post_root [] n j prop is = cc
post_root (p ∷ ps) n zero prop is = refl
post_root (p ∷ ps) n (suc j) prop is = post_root ps (n + table_size p) j prop is

post_found : (ps : List Position) (posts : List Prop) (n root : ℕ) (prop : Prop) → Found posts (after_positions n ps) prop root → Found (props_before ps posts) n prop root
post_found [] posts n root prop found = found
post_found (p ∷ ps) posts n root prop found = past_position p ps posts n root prop (post_found ps posts (after_position n p) root prop found)

pub place_found : (deed : Deed) (place : Root) (prop : Prop) → prop_at deed place ≡ Some prop → Found (props_of_deed deed) 0 prop (root_of deed place)
place_found deed (R.Trigger i) prop is = trigger_found deed.positions deed.posts 0 i prop is
place_found deed (R.Antecedent i) prop is = antecedent_found deed.positions deed.posts 0 i prop is
place_found deed (R.Consequent i) prop is = consequent_found deed.positions deed.posts 0 i prop is
place_found deed (R.Post j) prop is = post_found deed.positions deed.posts 0 _ prop (j, is, post_root deed.posts (after_positions 0 deed.positions) j prop is)
