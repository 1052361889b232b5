-- Texts of dates, the point of each, and the text of each point. A text has the form dddd-dd-dd, or dddd-dd-ddTdd, or
-- dddd-dd-ddTdd:dd, where each d is a digit.
use Rattle.std.specs.Prelude.{ℕ, zero, suc, ◌+◌, ◌-◌, ◌*◌, ◌/◌, ◌%◌, Bool, ◌&&◌, ◌==◌, nat_le, nat_lt, if◌then◌else◌, List, [], ◌∷◌, ◌++◌, Some, None, ℤ, pos, ◌+ℤ◌, ◌-ℤ◌, ◌*ℤ◌, unsigned_abs, codes, ◌≡◌, not, IsTrue}
use Rattle.std.specs.Option.{IsSomeAnd}
use Rattle.std.specs.declared.option.Option.{Option}
use Rattle.jiff_core.specs.Calendar.{days_from_civil, days_in_month, days_in_year}
use Rattle.sy_base.specs.declared.time.TimeUnit.{TimeUnit}
use Rattle.sy_base.specs.declared.time.TimeUnit.TheVariants.{Minute, Hour, Day}
use Rattle.sy_base.specs.Points.{least_point, minutes_of_unit}

-- the time of day that a text writes, and the unit of its form; what it leaves out is 0
pub record TimeOfDay : Type 0 where
  pub form : TimeUnit
  pub hour : ℕ
  pub minute : ℕ

-- the numbers that a text of a date writes
pub record WrittenDate : Type 0 where
  pub year : ℕ
  pub month : ℕ
  pub day : ℕ
  pub time : TimeOfDay

-- what a digit stands for: `0` is the byte 48, and `9` is 57
abbrev pub value_of_digit : ℕ → Option ℕ
value_of_digit b = if nat_le 48 b && nat_le b 57 then Some (b - 48) else None

-- a number by its higher and its lower part
abbrev pub joined : ℕ → Option ℕ → Option ℕ → Option ℕ
joined base (Some high) (Some low) = Some (base * high + low)
joined base (Some high) None = None
joined base None low = None

-- the number of two digits
abbrev pub number2 : ℕ → ℕ → Option ℕ
number2 a b = joined 10 (value_of_digit a) (value_of_digit b)

-- the number of four digits
abbrev pub number4 : ℕ → ℕ → ℕ → ℕ → Option ℕ
number4 a b c d = joined 100 (number2 a b) (number2 c d)

-- no time of day
abbrev pub midnight : TimeOfDay
midnight = record { form = Day; hour = 0; minute = 0 }

-- an hour alone
abbrev pub at_hour : Option ℕ → Option TimeOfDay
at_hour (Some hour) = Some (record { form = Hour; hour = hour; minute = 0 })
at_hour None = None

-- an hour and a minute
abbrev pub at_minute : Option ℕ → Option ℕ → Option TimeOfDay
at_minute (Some hour) (Some minute) = Some (record { form = Minute; hour = hour; minute = minute })
at_minute (Some hour) None = None
at_minute None minute = None

-- what stands after the day: nothing, or Tdd, or Tdd:dd (84 is the byte `T`, and 58 is `:`)
abbrev pub time_text : List ℕ → Option TimeOfDay
time_text [] = Some midnight
time_text (t ∷ a ∷ b ∷ []) = if t == 84 then at_hour (number2 a b) else None
time_text (t ∷ a ∷ b ∷ s ∷ c ∷ d ∷ []) =
    if (t == 84) && (s == 58) then at_minute (number2 a b) (number2 c d) else None
time_text bytes = None

-- a date of these parts, where each is there
abbrev pub with_parts : Option ℕ → Option ℕ → Option ℕ → Option TimeOfDay → Option WrittenDate
with_parts (Some year) (Some month) (Some day) (Some time) =
    Some (record { year = year; month = month; day = day; time = time })
with_parts (Some year) (Some month) (Some day) None = None
with_parts (Some year) (Some month) None time = None
with_parts (Some year) None day time = None
with_parts None month day time = None

-- what a text writes, if it has one of the three forms (45 is the byte `-`)
abbrev pub written_date : List ℕ → Option WrittenDate
written_date (a ∷ b ∷ c ∷ d ∷ p ∷ e ∷ f ∷ q ∷ g ∷ h ∷ rest) =
    if (p == 45) && (q == 45)
    then with_parts (number4 a b c d) (number2 e f) (number2 g h) (time_text rest)
    else None
written_date bytes = None

-- a form is finer than a unit
abbrev pub is_finer_form : TimeUnit → TimeUnit → Bool
is_finer_form form unit = nat_lt (minutes_of_unit form) (minutes_of_unit unit)

-- the calendar has this day
abbrev pub is_day : ℕ → ℕ → ℕ → Bool
is_day year month day =
    nat_le 1 month && nat_le month 12 && nat_le 1 day && nat_le day (days_in_month (pos year) month)

-- the day has this time
abbrev pub is_time : ℕ → ℕ → Bool
is_time hour minute = nat_lt hour 24 && nat_lt minute 60

-- the years that dates have
abbrev pub is_year : ℕ → Bool
is_year year = nat_le 1900 year && nat_le year 2999

-- how many of a unit a day has
abbrev pub units_of_day : TimeUnit → ℕ
units_of_day Minute = 1440
units_of_day Hour = 24
units_of_day Day = 1

-- how many of a unit have gone by at a time of day
abbrev pub units_at : TimeUnit → ℕ → ℕ → ℕ
units_at Minute hour minute = hour * 60 + minute
units_at Hour hour minute = hour
units_at Day hour minute = 0

-- the point of a date: its day number times the units of a day, and the units that have gone by
abbrev pub point_of : TimeUnit → WrittenDate → ℤ
point_of unit date =
    days_from_civil (pos date.year) date.month date.day *ℤ pos (units_of_day unit)
    +ℤ pos (units_at unit date.time.hour date.time.minute)

-- how many bytes a text of the unit's own form has
abbrev pub text_length : TimeUnit → ℕ
text_length Minute = 16
text_length Hour = 13
text_length Day = 10

-- the time of day in the unit's own form
abbrev pub time_in : TimeUnit → ℕ → ℕ → TimeOfDay
time_in Minute hour minute = record { form = Minute; hour = hour; minute = minute }
time_in Hour hour minute = record { form = Hour; hour = hour; minute = 0 }
time_in Day hour minute = midnight

-- a day, by the year or the month that it is in and by how many days of that are before it
pub record DayIn : Type 0 where
  pub number : ℕ
  pub before : ℕ

-- the day so many days after the first of the year or month with this number: those that have gone by whole are
-- counted off, at most so many of them, and `length_of` says how many days each has
unfoldable pub day_in : (ℕ → ℕ) → ℕ → ℕ → ℕ → DayIn
day_in length_of zero number days = record { number = number; before = days }
day_in length_of (suc most) number days =
    if nat_lt days (length_of number) then record { number = number; before = days }
    else day_in length_of most (suc number) (days - length_of number)

-- the year of the day so many days after 1900-01-01, up to 2999
abbrev pub day_in_year : ℕ → DayIn
day_in_year days = day_in (λ year. days_in_year (pos year)) 1099 1900 days

-- the month of a day of a year
abbrev pub day_in_month : DayIn → DayIn
day_in_month year = day_in (days_in_month (pos year.number)) 11 1 year.before

-- the date of a day of a year, at a time
abbrev pub date_in_year : DayIn → TimeOfDay → WrittenDate
date_in_year year time =
    let month = day_in_month year in
    record { year = year.number; month = month.number; day = month.before + 1; time = time }

-- how many minutes after 1900-01-01T00:00 a point begins
abbrev pub minutes_since_1900 : TimeUnit → ℤ → ℕ
minutes_since_1900 unit point = unsigned_abs (point -ℤ least_point unit) * minutes_of_unit unit

-- the date of a point, in the unit's own form
abbrev pub date_at : TimeUnit → ℤ → WrittenDate
date_at unit point =
    let minutes = minutes_since_1900 unit point in
    date_in_year (day_in_year (minutes / 1440)) (time_in unit (minutes / 60 % 24) (minutes % 60))

-- the byte of a digit
abbrev pub digit : ℕ → ℕ
digit n = 48 + n

-- a number below 100 in two digits
abbrev pub two_digits : ℕ → List ℕ
two_digits n = digit (n / 10) ∷ digit (n % 10) ∷ []

-- a number below 10,000 in four digits
abbrev pub four_digits : ℕ → List ℕ
four_digits n = two_digits (n / 100) ++ two_digits (n % 100)

-- what stands after the day, in a form
abbrev pub text_of_time : TimeUnit → ℕ → ℕ → List ℕ
text_of_time Minute hour minute = codes "T" ++ two_digits hour ++ codes ":" ++ two_digits minute
text_of_time Hour hour minute = codes "T" ++ two_digits hour
text_of_time Day hour minute = []

-- the text of a date
abbrev pub text_of_date : WrittenDate → List ℕ
text_of_date date =
    four_digits date.year ++ codes "-" ++ two_digits date.month ++ codes "-" ++ two_digits date.day
    ++ text_of_time date.time.form date.time.hour date.time.minute

-- the text of a date's point, in the unit's own form
unfoldable pub date_text : TimeUnit → ℤ → List ℕ
date_text unit point = text_of_date (date_at unit point)

-- a date that a text of a unit may have: in no finer form, in the calendar, and from 1900 to 2999
abbrev pub is_date : TimeUnit → WrittenDate → Bool
is_date unit date =
    not (is_finer_form date.time.form unit) && is_day date.year date.month date.day
    && is_time date.time.hour date.time.minute && is_year date.year

-- the text is one of a date of the unit, and this is its point
abbrev pub IsDateText : TimeUnit → List ℕ → ℤ → Type 0
IsDateText unit bytes point =
    IsSomeAnd (written_date bytes) (λ date. IsTrue (is_date unit date) × (point_of unit date ≡ point))
