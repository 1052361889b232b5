-- What stands in a proposition: the internal events that it names, its date terms, and whether it asks for a state now.
use Rattle.std.specs.Prelude.{Bool, true, false, ◌&&◌, ◌==◌, List, [], ◌∷◌, ◌++◌, map}
use Rattle.std.specs.List.{list_any, flat_map}
use Rattle.sy_words.specs.declared.kind.Kind.{Kind}
use Rattle.sy_words.specs.declared.kind.Kind.TheVariants.{Exerted, Triggered, Activated, Resumed, Suspended, Fulfilled, Violated, Expired, Discharged, Terminated, Completed}
use Rattle.sy_core.specs.declared.kind.Target.{Target}
use Rattle.sy_core.specs.declared.kind.Target.TheVariants as T
use Rattle.sy_core.specs.declared.event.Ev.{Ev}
use Rattle.sy_core.specs.declared.event.Ev.TheVariants.{Outer, Inner}
use Rattle.sy_core.specs.declared.date_term.Base.{Base}
use Rattle.sy_core.specs.declared.date_term.Base.TheVariants.{Fixed, First}
use Rattle.sy_core.specs.declared.date_term.DateTerm.{DateTerm}
use Rattle.sy_core.specs.declared.proposition.Prop.{Prop}
use Rattle.sy_core.specs.declared.proposition.Prop.TheOpen.{Prop-F}
use Rattle.sy_core.specs.declared.proposition.Prop.TheOpen as P
use Rattle.sy_core.specs.declared.proposition.Prop.TheFolds.{fold-Prop}
use Rattle.sy_core.specs.declared.position.Goal.{Goal}
use Rattle.sy_core.specs.declared.position.Goal.TheVariants as G

-- an internal event: its kind and its target
abbrev pub InternalEvent : Type 0
InternalEvent = Kind × Target

-- the events of some kinds of one target
abbrev pub events_at : List Kind → Target → List InternalEvent
events_at kinds target = map (λ kind. (kind, target)) kinds

-- two targets are the same
abbrev pub same_target : Target → Target → Bool
same_target T.Contract T.Contract = true
same_target (T.Position i) (T.Position j) = i == j
same_target _ _ = false

-- the internal event that is named, if it is one
abbrev pub named_by_event : Ev → List InternalEvent
named_by_event (Outer event guards) = []
named_by_event (Inner kind target) = (kind, target) ∷ []

-- the internal event that a date term begins with, if it does
abbrev pub named_by_base : Base → List InternalEvent
named_by_base (Fixed point) = []
named_by_base (First e) = named_by_event e

-- the internal event that a date term names, if it does
abbrev pub named_by_date : DateTerm → List InternalEvent
named_by_date term = named_by_base term.base

-- the internal events of one proposition, with those of each part in its place
abbrev pub names_step : Prop-F (List InternalEvent) → List InternalEvent
names_step (P.Const b) = []
names_step (P.Not events) = events
names_step (P.All parts) = flat_map (λ part. part) parts
names_step (P.Any parts) = flat_map (λ part. part) parts
names_step (P.Happens e) = named_by_event e
names_step (P.Before e to) = named_by_event e ++ named_by_date to
names_step (P.After e from) = named_by_event e ++ named_by_date from
names_step (P.Within e from to) = named_by_event e ++ (named_by_date from ++ named_by_date to)
names_step (P.Occurs s from to) = named_by_date from ++ named_by_date to
names_step (P.Holds s) = []

-- the internal events that a proposition names, anywhere in it: under not and inside time too
abbrev pub names_of : Prop → List InternalEvent
names_of = fold-Prop (List InternalEvent) names_step

-- the internal events that a duty names; an act names none
abbrev pub names_of_duty : Goal → List InternalEvent
names_of_duty (G.Duty consequent) = names_of consequent
names_of_duty (G.Act act) = []

-- the date terms of one proposition, with those of each part in its place
abbrev pub dates_step : Prop-F (List DateTerm) → List DateTerm
dates_step (P.Const b) = []
dates_step (P.Not dates) = dates
dates_step (P.All parts) = flat_map (λ part. part) parts
dates_step (P.Any parts) = flat_map (λ part. part) parts
dates_step (P.Happens e) = []
dates_step (P.Before e to) = to ∷ []
dates_step (P.After e from) = from ∷ []
dates_step (P.Within e from to) = from ∷ to ∷ []
dates_step (P.Occurs s from to) = from ∷ to ∷ []
dates_step (P.Holds s) = []

-- the date terms of a proposition, from left to right
abbrev pub dates_of : Prop → List DateTerm
dates_of = fold-Prop (List DateTerm) dates_step

-- the date terms of a duty; an act has none
abbrev pub dates_of_duty : Goal → List DateTerm
dates_of_duty (G.Duty consequent) = dates_of consequent
dates_of_duty (G.Act act) = []

-- whether one proposition has a holds, with the answer of each part in its place
abbrev pub holds_step : Prop-F Bool → Bool
holds_step (P.Const b) = false
holds_step (P.Not b) = b
holds_step (P.All bs) = list_any (λ b. b) bs
holds_step (P.Any bs) = list_any (λ b. b) bs
holds_step (P.Happens e) = false
holds_step (P.Before e to) = false
holds_step (P.After e from) = false
holds_step (P.Within e from to) = false
holds_step (P.Occurs s from to) = false
holds_step (P.Holds s) = true

-- the proposition has a holds somewhere in it
abbrev pub has_holds : Prop → Bool
has_holds = fold-Prop Bool holds_step

-- the kind is that of a violation
abbrev pub is_violation : Kind → Bool
is_violation Exerted = false
is_violation Triggered = false
is_violation Activated = false
is_violation Resumed = false
is_violation Suspended = false
is_violation Fulfilled = false
is_violation Violated = true
is_violation Expired = false
is_violation Discharged = false
is_violation Terminated = false
is_violation Completed = false

-- the event is the violation of a target
abbrev pub is_violation_of : Target → InternalEvent → Bool
is_violation_of target event = is_violation event.0 && same_target event.1 target
