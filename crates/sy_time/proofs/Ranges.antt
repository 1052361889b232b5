-- A date with no fault has a point of a date.
use Rattle.std.proofs.Common.{◌≡◌, ℕ, ◌<◌, ◌≤◌, ◌&&◌, pos, neg_ℤ, ℤ, ◌+ℤ◌, ◌*ℤ◌, ◌≤ℤ◌, refl, arith, true, false, Bool, Ok, Err, IfOk, Result, if◌then◌else◌}
use Rattle.std.proofs.lemmas.Bool.Decides.{nat_tests}
use Rattle.std.proofs.lemmas.Int.{by_lt_z}
use Rattle.jiff_core.specs.Calendar.{day_count, days_from_civil, IsCivilDate}
use Rattle.jiff_core.proofs.SignedLemmas.{signed_arith}
use Rattle.jiff_core.proofs.CalendarLemmas.{days_from_civil-day_count, day_count-lt_year, day_count-later_year, day_count-day_of_year}
use Rattle.sy_base.specs.declared.time.TimeUnit.{TimeUnit}
use Rattle.sy_base.specs.declared.time.TimeUnit.TheVariants.{Minute, Hour, Day}
use Rattle.sy_base.specs.Dates.{WrittenDate, is_day, is_time, is_year, units_of_day, units_at, point_of}
use Rattle.sy_base.specs.Points.{IsDated}
use Rattle.sy_time.specs.declared.date.DateFault.{DateFault}
use Rattle.sy_time.specs.declared.date.DateFault.TheVariants.{NoSuchDay, OutOfRange}
use Rattle.sy_time.specs.Date.{point_or_fault}
use Rattle.sy_time.proofs.Days.{IsCivilDate-from_test}
use Rattle.sy_time.proofs.Years.{first_of_1900, first_of_3000}

pub first_of_year : (year : ℕ) → 1900 ≤ year → 4346386 ≤ day_count (pos year) 1 1
first_of_year year late =
    by_lt_z (pos 1900) (pos year)
    (λ later. omega (arith, first_of_1900, day_count-later_year (pos 1900) (pos year) (omega (arith, signed_arith)) later))
    (λ first. let same : year ≡ 1900 = omega (arith, signed_arith) in rw same (omega (arith, first_of_1900)))

record InRange (number : ℤ) : Type 0 where
  low : neg_ℤ (pos 25567) ≤ℤ number
  high : number ≤ℤ pos 376199

number_in_range : (year month day : ℕ) → IsCivilDate (pos year) month day → 1900 ≤ year → year ≤ 2999 → InRange (days_from_civil (pos year) month day)
number_in_range year month day date late early = record {
  low = omega (arith, signed_arith, first_of_year year late, days_from_civil-day_count (pos year) month day, day_count-day_of_year (pos year) month day date.2.0);
  high = omega (arith, signed_arith, first_of_3000, days_from_civil-day_count (pos year) month day, day_count-lt_year (pos year) month day (pos 3000) 1 1 date (omega arith) (omega (arith, signed_arith)));
}

point_in_range : (unit : TimeUnit) (number : ℤ) (hour minute : ℕ) → InRange number → hour < 24 → minute < 60
    → IsDated unit (number *ℤ pos (units_of_day unit) +ℤ pos (units_at unit hour minute))
point_in_range Minute number hour minute range h n = record { not_before = omega (arith, signed_arith, range.low); not_after = omega (arith, signed_arith, range.high) }
point_in_range Hour number hour minute range h n = record { not_before = omega (arith, signed_arith, range.low); not_after = omega (arith, signed_arith, range.high) }
point_in_range Day number hour minute range h n = record { not_before = omega (arith, signed_arith, range.low); not_after = omega (arith, signed_arith, range.high) }

-- a day of the calendar in a year from 1900 to 2999, at a time that it has, has a point of a date
point_at-in_range : (unit : TimeUnit) (year month day hour minute : ℕ)
    → is_day year month day ≡ true → is_time hour minute ≡ true → is_year year ≡ true
    → IsDated unit (days_from_civil (pos year) month day *ℤ pos (units_of_day unit) +ℤ pos (units_at unit hour minute))
point_at-in_range unit year month day hour minute has_day has_time in_range =
    let late : 1900 ≤ year = grind (arith, nat_tests) in
    let early : year ≤ 2999 = grind (arith, nat_tests) in
    let h : hour < 24 = grind (arith, nat_tests) in
    let n : minute < 60 = grind (arith, nat_tests) in
    point_in_range unit _ hour minute (number_in_range year month day (IsCivilDate-from_test year month day (omega arith) has_day) late early) h n

-- a fact of a point with no fault holds wherever there is a point
faultless : (possible in_range : Bool) (point : ℤ) (P : ℤ → Type 0) → (possible ≡ true → in_range ≡ true → P point)
    → IfOk (if possible then (if in_range then Ok point else Err OutOfRange) else Err NoSuchDay) P
faultless true true point P holds = holds refl refl
faultless true false point P holds = tt
faultless false in_range point P holds = tt

pub IsDated-point_or_fault : (unit : TimeUnit) (date : WrittenDate) (result : Result ℤ DateFault) → result ≡ point_or_fault unit date → IfOk result (IsDated unit)
IsDated-point_or_fault unit date result same = rw same
    (faultless (is_day date.year date.month date.day && is_time date.time.hour date.time.minute) (is_year date.year) (point_of unit date) (IsDated unit)
    (λ possible in_range.
    let has_day : is_day date.year date.month date.day ≡ true = grind (arith, nat_tests) in
    let has_time : is_time date.time.hour date.time.minute ≡ true = grind (arith, nat_tests) in
    point_at-in_range unit date.year date.month date.day date.time.hour date.time.minute has_day has_time in_range))
