-- What reading the text of a date answers.
use Rattle.std.specs.Prelude.{ℕ, ◌&&◌, if◌then◌else◌, List, Some, None, Ok, Err, ℤ, Result}
use Rattle.std.specs.declared.option.Option.{Option}
use Rattle.sy_base.specs.declared.time.TimeUnit.{TimeUnit}
use Rattle.sy_base.specs.Dates.{WrittenDate, written_date, is_finer_form, is_day, is_time, is_year, point_of}
use Rattle.sy_time.specs.declared.date.DateFault.{DateFault}
use Rattle.sy_time.specs.declared.date.DateFault.TheVariants.{Shape, TooFine, NoSuchDay, OutOfRange}

-- the point of a date, or why it has none in the range
abbrev pub point_or_fault : TimeUnit → WrittenDate → Result ℤ DateFault
point_or_fault unit date =
    if is_day date.year date.month date.day && is_time date.time.hour date.time.minute
    then (if is_year date.year then Ok (point_of unit date) else Err OutOfRange)
    else Err NoSuchDay

-- the point of what a text writes, or the first of the faults that it has
abbrev pub answer : TimeUnit → Option WrittenDate → Result ℤ DateFault
answer unit None = Err Shape
answer unit (Some date) =
    if is_finer_form date.time.form unit then Err TooFine else point_or_fault unit date

-- what reading a text answers
abbrev pub date_of : TimeUnit → List ℕ → Result ℤ DateFault
date_of unit bytes = answer unit (written_date bytes)
