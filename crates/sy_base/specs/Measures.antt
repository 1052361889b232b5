-- The measures of durations: the words of each, how long it is, how many of it one duration may count, and what a duration
-- adds to a point.
use Rattle.std.specs.Prelude.{ℕ, ◌*◌, ◌/◌, ℤ, pos, ◌+ℤ◌, Bool, nat_lt, List, [], ◌∷◌, codes}
use Rattle.sy_base.specs.declared.time.TimeUnit.{TimeUnit}
use Rattle.sy_base.specs.declared.time.Measure.{Measure}
use Rattle.sy_base.specs.declared.time.Measure.TheVariants.{Minutes, Hours, Days, Weeks}
use Rattle.sy_base.specs.declared.time.Duration.{Duration}
use Rattle.sy_base.specs.Points.{minutes_of_unit}

-- all of them
abbrev pub measures : List Measure
measures = Minutes ∷ Hours ∷ Days ∷ Weeks ∷ []

-- the word of a measure in the singular
abbrev pub singular_word : Measure → List ℕ
singular_word Minutes = codes "Minute"
singular_word Hours = codes "Hour"
singular_word Days = codes "Day"
singular_word Weeks = codes "Week"

-- and in the plural: either word may stand behind any count
abbrev pub plural_word : Measure → List ℕ
plural_word Minutes = codes "Minutes"
plural_word Hours = codes "Hours"
plural_word Days = codes "Days"
plural_word Weeks = codes "Weeks"

-- how many minutes one of a measure has
abbrev pub minutes_of_measure : Measure → ℕ
minutes_of_measure Minutes = 1
minutes_of_measure Hours = 60
minutes_of_measure Days = 1440
minutes_of_measure Weeks = 10080

-- the greatest count of a duration: each spans at most the days of 400 years
abbrev pub greatest_count : Measure → ℕ
greatest_count Minutes = 210379680
greatest_count Hours = 3506328
greatest_count Days = 146097
greatest_count Weeks = 20871

-- a measure is finer than a unit, so that no whole number of units stands for it
abbrev pub is_finer : Measure → TimeUnit → Bool
is_finer measure unit = nat_lt (minutes_of_measure measure) (minutes_of_unit unit)

-- the point a duration after another: its count times the units that its measure has
abbrev pub added : TimeUnit → ℤ → Duration → ℤ
added unit point duration =
    point +ℤ pos (duration.count * (minutes_of_measure duration.measure / minutes_of_unit unit))
