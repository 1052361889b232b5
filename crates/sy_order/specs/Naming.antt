-- What the order of evaluation asks of a deed: its propositions name only events that are there, and only its powers act.
use Rattle.std.specs.Prelude.{Bool, true, ◌&&◌, List}
use Rattle.std.specs.List.{list_all}
use Rattle.sy_words.specs.declared.form.Form.{Form}
use Rattle.sy_core.specs.declared.position.Goal.{Goal}
use Rattle.sy_core.specs.declared.position.Goal.TheVariants as G
use Rattle.sy_core.specs.declared.position.Position.{Position}
use Rattle.sy_core.specs.declared.deed.Deed.{Deed}
use Rattle.sy_core.specs.Mentions.{InternalEvent, names_of, names_of_duty}
use Rattle.sy_core.specs.Conditions.{is_power}
use Rattle.sy_core.specs.Soundness.{is_sound_inner}

-- each event is one that the contract has, or the position that is there
abbrev pub are_there : Deed → List InternalEvent → Bool
are_there deed events = list_all (λ event. is_sound_inner deed event.0 event.1) events

-- an act is the goal of a power
abbrev pub acts_as_power : Form → Goal → Bool
acts_as_power form (G.Act act) = is_power form
acts_as_power form (G.Duty consequent) = true

-- a position names only events that are there, and acts only as a power
abbrev pub names_what_is_there : Deed → Position → Bool
names_what_is_there deed p =
    are_there deed (names_of p.trigger) && are_there deed (names_of p.antecedent) && are_there deed (names_of_duty p.goal)
    && acts_as_power p.form p.goal
