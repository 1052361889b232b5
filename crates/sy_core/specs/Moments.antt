-- What stands at one point, and what the points up to now say of an event and of a date.
-- A date term has the value of its beginning with its durations added from left to right. A fixed beginning has its date. time(E) has a
-- value once E has happened, namely the first point at which it did.
use Rattle.std.specs.Prelude.{ℕ, ℤ, Bool, ◌&&◌, List, [], ◌∷◌, ◌++◌, Option, Some, None, int_lt, int_le, if◌then◌else◌}
use Rattle.std.specs.Option.{option_map}
use Rattle.std.specs.List.{list_any}
use Rattle.sy_base.specs.declared.time.TimeUnit.{TimeUnit}
use Rattle.sy_base.specs.declared.time.Duration.{Duration}
use Rattle.sy_base.specs.Measures.{added}
use Rattle.sy_core.specs.declared.event.Ev.{Ev}
use Rattle.sy_core.specs.declared.kind.Target.{Target}
use Rattle.sy_core.specs.declared.state.StateOf.{StateOf}
use Rattle.sy_core.specs.declared.date_term.Base.{Base}
use Rattle.sy_core.specs.declared.date_term.Base.TheVariants.{Fixed, First}
use Rattle.sy_core.specs.declared.date_term.DateTerm.{DateTerm}

-- one point: the powers that the narrative exerts there, the events that happen there, and the states at its start
pub record Moment : Type 0 where
  pub point : ℤ
  pub asked : ℕ → Bool
  pub seen : Ev → Bool
  pub state : Target → StateOf

-- Moments stand in a list, from start on, the oldest first.

-- the moments up to now: those before it, and now
abbrev pub up_to : Moment → List Moment → List Moment
up_to now before = before ++ now ∷ []

-- the event happened at some point
abbrev pub seen_ever : Ev → List Moment → Bool
seen_ever e moments = list_any (λ m. m.seen e) moments

-- the event happened at some point before a date
abbrev pub seen_before : Ev → ℤ → List Moment → Bool
seen_before e to moments = list_any (λ m. m.seen e && int_lt m.point to) moments

-- the event happened at some point after a date
abbrev pub seen_after : Ev → ℤ → List Moment → Bool
seen_after e from moments = list_any (λ m. m.seen e && int_lt from m.point) moments

-- the event happened at some point from the one date on and before the other
abbrev pub seen_between : Ev → ℤ → ℤ → List Moment → Bool
seen_between e from to moments = list_any (λ m. m.seen e && (int_le from m.point && int_lt m.point to)) moments

-- the first point at which the event happened, where it did
abbrev pub first_point : Ev → List Moment → Option ℤ
first_point e [] = None
first_point e (m ∷ later) = if m.seen e then Some m.point else first_point e later

-- the value of what a date term begins with, where it has one
abbrev pub base_value : Base → List Moment → Option ℤ
base_value (Fixed point) moments = Some point
base_value (First e) moments = first_point e moments

-- durations added one after the other, from left to right
abbrev pub all_added : TimeUnit → ℤ → List Duration → ℤ
all_added unit point [] = point
all_added unit point (duration ∷ more) = all_added unit (added unit point duration) more

-- the value of a date term, where it has one
abbrev pub date_value : TimeUnit → DateTerm → List Moment → Option ℤ
date_value unit term moments = option_map (λ point. all_added unit point term.plus) (base_value term.base moments)
