-- What reading a date answers, without the name of its fault.
use Rattle.std.proofs.Common.{◌≡◌, ℕ, ℤ, Bool, true, false, ◌&&◌, not, if◌then◌else◌, Option, Some, None, option_and_then, Result, Ok, Err, refl}
use Rattle.std.specs.Result.{result_ok}
use Rattle.sy_base.specs.declared.time.TimeUnit.{TimeUnit}
use Rattle.sy_base.specs.Dates.{WrittenDate, is_day, is_finer_form, is_time, is_year, point_of}
use Rattle.sy_time.specs.declared.date.DateFault.{DateFault}
use Rattle.sy_time.specs.declared.date.DateFault.TheVariants.{TooFine, NoSuchDay, OutOfRange}
use Rattle.sy_time.specs.Date.{answer}
use Rattle.sy_literal.specs.Values.{point_in}

by_tests : (finer day time year : Bool) (point : ℤ)
    → result_ok {E = DateFault} (if finer then Err TooFine else (if day && time then (if year then Ok point else Err OutOfRange) else Err NoSuchDay))
    ≡ (if not finer && day && time && year then Some point else None)
by_tests true day time year point = refl
by_tests false false time year point = refl
by_tests false true false year point = refl
by_tests false true true false point = refl
by_tests false true true true point = refl

pub answer_in : (unit : TimeUnit) (date : Option WrittenDate) → result_ok (answer unit date) ≡ option_and_then (point_in unit) date
answer_in unit None = refl
answer_in unit (Some date) =
    by_tests (is_finer_form date.time.form unit) (is_day date.year date.month date.day) (is_time date.time.hour date.time.minute)
    (is_year date.year) (point_of unit date)
