-- One point evaluated: what the narrative has there is seen, each internal event that happens is fired, and the states after it are set.
use Rattle.std.specs.Prelude.{List, [], ◌∷◌, map, if◌then◌else◌}
use Rattle.sy_core.specs.declared.kind.Target.{Target}
use Rattle.sy_core.specs.declared.kind.Target.TheVariants as T
use Rattle.sy_core.specs.declared.state.StateOf.{StateOf}
use Rattle.sy_core.specs.declared.deed.Deed.{Deed}
use Rattle.sy_core.specs.declared.happening.What.{What}
use Rattle.sy_core.specs.Mentions.{InternalEvent}
use Rattle.sy_core.specs.Conditions.{numbered, fires}
use Rattle.sy_core.specs.Chronicle.{states_next}
use Rattle.sy_core.specs.EventOrder.{event_order}
use Rattle.sy_quiet.specs.Histories.{History, seeing, firing, setting, going_on}

-- the narrative has these now
abbrev pub seeing_all : List What → History → History
seeing_all [] h = h
seeing_all (what ∷ later) h = seeing_all later (seeing what h)

-- the event is fired where its condition is true of what was told so far
abbrev pub firing_if : Deed → InternalEvent → History → History
firing_if deed event h = if fires deed h.now h.before event.0 event.1 then firing event.0 event.1 h else h

-- one event after the other
abbrev pub firing_all : Deed → List InternalEvent → History → History
firing_all deed [] h = h
firing_all deed (event ∷ later) h = firing_all deed later (firing_if deed event h)

-- each target's state is set
abbrev pub setting_all : (Target → StateOf) → List Target → History → History
setting_all states [] h = h
setting_all states (x ∷ later) h = setting_all states later (setting x (states x) h)

-- the contract, and each position
abbrev pub targets_of : Deed → List Target
targets_of deed = T.Contract ∷ map (λ n. T.Position n.0) (numbered deed)

-- the point with all its events, before its states are set
abbrev pub with_events : Deed → List What → History → History
with_events deed happenings h = firing_all deed (event_order deed) (seeing_all happenings h)

-- the states after the present point are set
abbrev pub with_states : Deed → History → History
with_states deed h = setting_all (states_next deed h.now) (targets_of deed) h

-- the present point is evaluated, and the next one begins
abbrev pub evaluated : Deed → List What → History → History
evaluated deed happenings h = going_on (with_states deed (with_events deed happenings h))
