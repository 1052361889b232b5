-- A position with nothing of its propositions but the internal events that they name. The order of evaluation goes by these alone.
use Rattle.std.specs.Prelude.{◌≡◌, List, map}
use Rattle.sy_core.specs.declared.event.Ev.TheVariants.{Inner}
use Rattle.sy_core.specs.declared.proposition.Prop.{Prop}
use Rattle.sy_core.specs.declared.proposition.Prop.TheVariants as Props
use Rattle.sy_core.specs.declared.position.Goal.{Goal}
use Rattle.sy_core.specs.declared.position.Goal.TheVariants as G
use Rattle.sy_core.specs.declared.position.Position.{Position}
use Rattle.sy_core.specs.declared.deed.Deed.{Deed}
use Rattle.sy_core.specs.Mentions.{InternalEvent, names_of}

-- the event happens
abbrev pub happens : InternalEvent → Prop
happens event = Props.Happens (Inner event.0 event.1)

-- one of the events happens
abbrev pub one_happens : List InternalEvent → Prop
one_happens events = Props.Any (map happens events)

-- one of the events that a proposition names happens
abbrev pub bare_prop : Prop → Prop
bare_prop prop = one_happens (names_of prop)

-- a duty by its events alone; an act is kept
abbrev pub bare_goal : Goal → Goal
bare_goal (G.Duty consequent) = G.Duty (bare_prop consequent)
bare_goal (G.Act act) = G.Act act

-- a position, with each proposition by its events alone
abbrev pub bare : Position → Position
bare p = record p { trigger = bare_prop p.trigger; antecedent = bare_prop p.antecedent; goal = bare_goal p.goal }

-- the positions of two deeds are the same, but for what their propositions say of the events that they name
abbrev pub AreSameBare : Deed → Deed → Type 0
AreSameBare a b = map bare a.positions ≡ map bare b.positions
