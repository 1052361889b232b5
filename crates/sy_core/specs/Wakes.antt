-- The points at which anything can happen or change.
-- They are start, the points of the happenings, the points on which the value of a date term falls, and the point after each at which
-- something internal happened.
use Rattle.std.specs.Prelude.{ℕ, zero, suc, ℤ, pos, ◌+ℤ◌, ◌-ℤ◌, nat_abs, Bool, true, false, not, ◌&&◌, ◌||◌, List, ◌++◌, Option, Some, None, int_lt}
use Rattle.std.specs.Ordering.{int_eq}
use Rattle.std.specs.List.{list_any, flat_map}
use Rattle.sy_base.specs.declared.time.TimeUnit.{TimeUnit}
use Rattle.sy_core.specs.declared.event.Ev.TheVariants.{Inner}
use Rattle.sy_core.specs.declared.date_term.DateTerm.{DateTerm}
use Rattle.sy_core.specs.declared.position.Position.{Position}
use Rattle.sy_core.specs.declared.deed.Deed.{Deed}
use Rattle.sy_core.specs.declared.happening.Happening.{Happening}
use Rattle.sy_core.specs.Moments.{Moment, date_value}
use Rattle.sy_core.specs.Mentions.{dates_of, dates_of_duty}
use Rattle.sy_core.specs.Conditions.{events_of}
use Rattle.sy_core.specs.Chronicle.{chronicle, moment_at}

-- the date terms of a position
abbrev pub dates_of_position : Position → List DateTerm
dates_of_position p = dates_of p.trigger ++ dates_of p.antecedent ++ dates_of_duty p.goal

-- the date terms of a deed: those of the positions in their order, then those of the postconditions
abbrev pub dates_of_deed : Deed → List DateTerm
dates_of_deed deed = flat_map dates_of_position deed.positions ++ flat_map dates_of deed.posts

-- a value that is there is this point
abbrev pub is_point : ℤ → Option ℤ → Bool
is_point point None = false
is_point point (Some value) = int_eq value point

-- the date term's value falls on the point, by the moments up to it
abbrev pub falls_on : TimeUnit → ℤ → List Moment → DateTerm → Bool
falls_on unit point moments term = is_point point (date_value unit term moments)

-- something internal happens at the moment
abbrev pub has_internal_event : Deed → Moment → Bool
has_internal_event deed m = list_any (λ event. m.seen (Inner event.0 event.1)) (events_of deed)

-- the n-th point after start is a wake point
abbrev pub is_wake_after : Deed → List Happening → ℕ → Bool
is_wake_after deed narrative zero = true
is_wake_after deed narrative (suc n) =
    list_any (λ h. int_eq h.point (deed.start +ℤ pos (suc n))) narrative
    || list_any (falls_on deed.unit (deed.start +ℤ pos (suc n)) (chronicle deed narrative (suc (suc n)))) (dates_of_deed deed)
    || has_internal_event deed (moment_at deed narrative n)

-- the point is a wake point
abbrev pub is_wake_point : Deed → List Happening → ℤ → Bool
is_wake_point deed narrative point = not (int_lt point deed.start) && is_wake_after deed narrative (nat_abs (point -ℤ deed.start))
