-- The powers that act on a target, and lists for each position.
use Rattle.std.specs.Prelude.{◌≡◌, ℕ, ◌<◌, ◌==◌, List, [], ◌∷◌, ◌++◌, length, slice_index_or, if◌then◌else◌}
use Rattle.std.specs.List.{enumerate_from, flat_map}
use Rattle.sy_words.specs.declared.verb.Verb.{Verb}
use Rattle.sy_core.specs.declared.kind.Target.{Target}
use Rattle.sy_core.specs.declared.position.Goal.{Goal}
use Rattle.sy_core.specs.declared.position.Goal.TheVariants as G
use Rattle.sy_core.specs.declared.position.Position.{Position}
use Rattle.sy_core.specs.Mentions.{same_target}
use Rattle.sy_core.specs.Conditions.{verb_number}
use Rattle.sy_core.specs.Prerequisites.{Node, Exert}
use Rattle.sy_order.specs.declared.power.Power.{Power}

-- the power with a number and a goal, if it acts on the target
abbrev pub power_on : Target → ℕ → Goal → List Power
power_on target number (G.Duty consequent) = []
power_on target number (G.Act act) = if same_target act.target target then record { verb = act.verb; number = number } ∷ [] else []

-- the powers among positions from a number on that act on the target
abbrev pub powers_from : Target → ℕ → List Position → List Power
powers_from target number positions = flat_map (λ n. power_on target n.0 n.1.goal) (enumerate_from number positions)

abbrev pub powers_on : Target → List Position → List Power
powers_on target positions = powers_from target 0 positions

-- the exertion of a power, if it does this
abbrev pub exertion : Verb → Power → List Node
exertion verb power = if verb_number power.verb == verb_number verb then Exert power.number ∷ [] else []

-- the lists of the numbers below a count
pub record AreLists {X : Type 0} (count : ℕ) (of : ℕ → List X) (lists : List (List X)) : Type 0 where
  pub lists_length : length lists ≡ count
  pub lists_are : (k : ℕ) → k < count → slice_index_or lists k [] ≡ of k

-- each list has got these items at its end
pub record AreMore {X : Type 0} (more : ℕ → List X) (old new : List (List X)) : Type 0 where
  pub more_length : length new ≡ length old
  pub more_are : (k : ℕ) → k < length old → slice_index_or new k [] ≡ slice_index_or old k [] ++ more k
