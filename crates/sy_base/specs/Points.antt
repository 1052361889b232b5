-- Points of time, and their range in each unit.
use Rattle.std.specs.Prelude.{ℕ, ℤ, pos, neg_ℤ, ◌≤ℤ◌}
use Rattle.sy_base.specs.declared.time.TimeUnit.{TimeUnit}
use Rattle.sy_base.specs.declared.time.TimeUnit.TheVariants.{Minute, Hour, Day}

-- the point of 1900-01-01, the first date
abbrev pub least_point : TimeUnit → ℤ
least_point Minute = neg_ℤ (pos 36816480)
least_point Hour = neg_ℤ (pos 613608)
least_point Day = neg_ℤ (pos 25567)

-- the last point of 2999-12-31, the last date
abbrev pub greatest_point : TimeUnit → ℤ
greatest_point Minute = pos 541727999
greatest_point Hour = pos 9028799
greatest_point Day = pos 376199

-- the point is one of a date
pub record IsDated (unit : TimeUnit) (point : ℤ) : Type 0 where
  pub not_before : least_point unit ≤ℤ point
  pub not_after : point ≤ℤ greatest_point unit

-- how many minutes a unit has
abbrev pub minutes_of_unit : TimeUnit → ℕ
minutes_of_unit Minute = 1
minutes_of_unit Hour = 60
minutes_of_unit Day = 1440

-- the last point before 5800-01-01: no sum of the last date and seven durations is later
abbrev pub last_before_5800 : TimeUnit → ℤ
last_before_5800 Minute = pos 2014385759
last_before_5800 Hour = pos 33573095
last_before_5800 Day = pos 1398878

-- the point lies from 1900-01-01 to the end of 5799, so that one more duration may be added
pub record IsAddable (unit : TimeUnit) (point : ℤ) : Type 0 where
  pub not_before : least_point unit ≤ℤ point
  pub not_after : point ≤ℤ last_before_5800 unit
