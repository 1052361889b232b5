-- The text of a point's date has the form of a date, and is read back as the point.
use Rattle.std.proofs.Common.{◌≡◌, ℕ, zero, suc, ◌+◌, ◌-◌, ◌*◌, ◌/◌, ◌%◌, ◌<◌, ◌≤◌, ℤ, pos, ◌+ℤ◌, ◌*ℤ◌, unsigned_abs, Bool, true, false, not, ◌&&◌, nat_le, nat_lt, if◌then◌else◌, Some, None, option_and_then, Result, Ok, Err, refl, sym, ap, ◌∙◌, arith, inl, inr}
use Rattle.std.proofs.lemmas.Bool.{cases_Bool}
use Rattle.std.proofs.lemmas.Bool.Decides.{nat_tests}
use Rattle.std.proofs.lemmas.Int.{ints}
use Rattle.jiff_core.specs.Calendar.{IsCivilDate, day_count, days_from_civil, days_in_month, days_in_year}
use Rattle.jiff_core.proofs.CalendarLemmas.{day_count-day, day_count-last_of_year, day_count-next_month, day_count-next_year, days_from_civil-day_count, days_in_month_bounds}
use Rattle.jiff_core.proofs.SignedLemmas.{one_part, signed_arith}
use Rattle.sy_base.specs.declared.time.TimeUnit.{TimeUnit}
use Rattle.sy_base.specs.declared.time.TimeUnit.TheVariants.{Minute, Hour, Day}
use Rattle.sy_base.specs.Dates.{DayIn, WrittenDate, date_text, day_in, day_in_month, day_in_year, digit, is_day, is_finer_form, is_time, is_year, number2, number4, point_of, text_of_date, time_in, value_of_digit, written_date}
use Rattle.sy_base.specs.Points.{IsDated, minutes_of_unit}
use Rattle.sy_time.specs.Date.{answer}
use Rattle.sy_time.specs.declared.date.DateFault.{DateFault}
use Rattle.sy_time.specs.declared.date.DateFault.TheVariants.{TooFine, NoSuchDay, OutOfRange}
use Rattle.sy_time.proofs.DateOfPoint.{date_text-first_minute}
use Rattle.sy_time.proofs.Texts.{answer-first_minute, text_of_date-cut, written_date-cut}
use Rattle.sy_time.proofs.Years.{first_of_1900, first_of_3000}
use Rattle.sy_literal.specs.Values.{date_point, point_in}

-- ---- the day of a count of days

-- years or months: each begins where the one before it ends
record Follow (length_of start_of : ℕ → ℕ) : Type 0 where
  next : (i : ℕ) → 1 ≤ i → start_of (suc i) ≡ start_of i + length_of i

-- the year or the month that has the day so many days after the first of another
record HasDay (length_of start_of : ℕ → ℕ) (from last days : ℕ) (day : DayIn) : Type 0 where
  low : from ≤ day.number
  high : day.number ≤ last
  sum : start_of day.number + day.before ≡ start_of from + days
  inside : day.before < length_of day.number

further : (length_of start_of : ℕ → ℕ) → Follow length_of start_of → (from last days : ℕ) (day : DayIn) → 1 ≤ from
    → length_of from ≤ days → HasDay length_of start_of (suc from) last (days - length_of from) day
    → HasDay length_of start_of from last days day
further length_of start_of follow from last days day low past has = record {
  low = omega (arith, has.low);
  high = has.high;
  sum = omega (arith, has.sum, follow.next from low);
  inside = has.inside;
}

day_found : (length_of start_of : ℕ → ℕ) → Follow length_of start_of → (most from last days : ℕ) → 1 ≤ from → last ≡ most + from
    → start_of from + days < start_of (suc last) → HasDay length_of start_of from last days (day_in length_of most from days)
unfolding day_in
day_found length_of start_of follow zero from last days low is within =
    let here : suc last ≡ suc from = omega arith in
    record {
      low = omega arith;
      high = omega arith;
      sum = refl;
      inside = omega (arith, ap start_of here, follow.next from low);
    }
day_found length_of start_of follow (suc most) from last days low is within =
    elim (cases_Bool (nat_lt days (length_of from))) [
      | inl part ↦ rw part (record { low = omega arith; high = omega arith; sum = refl; inside = grind (arith, nat_tests) })
      | inr whole ↦
          let past : length_of from ≤ days = grind (arith, nat_tests) in
          let next = follow.next from low in
          rw whole (further length_of start_of follow from last days _ low past
          (day_found length_of start_of follow most (suc from) last (days - length_of from) (omega arith) (omega arith) (omega arith)))
    ]

years_follow : Follow (λ year. days_in_year (pos year)) (λ year. day_count (pos year) 1 1)
years_follow = record { next = λ i low. day_count-next_year (pos i) (pos (suc i)) (omega (arith, signed_arith)) (omega (arith, signed_arith)) }

plus_one : (i : ℕ) → i + 1 ≡ suc i
plus_one i = omega arith

months_follow : (year : ℤ) → Follow (days_in_month year) (λ month. day_count year month 1)
months_follow year = record { next = λ i low. rw (plus_one i) at (day_count-next_month year i low) }

-- the first of the month behind the twelfth
year_end : (year : ℤ) → day_count year 13 1 ≡ day_count year 1 1 + days_in_year year
year_end year =
    let next : day_count year 13 1 ≡ day_count year 12 1 + 31 = day_count-next_month year 12 (omega arith) in
    omega (arith, next, day_count-day year 12 31 1 (omega arith) (omega arith), day_count-last_of_year year)

-- a day of the calendar
record IsDayAfter1900 (days year month day : ℕ) : Type 0 where
  civil : IsCivilDate (pos year) month day
  late : 1900 ≤ year
  early : year ≤ 2999
  number : day_count (pos year) month day ≡ 4346386 + days

-- the numbers of the day
abbrev month_of : DayIn → DayIn
month_of year = day_in_month year

day_after : (days : ℕ) → days < 401767
    → IsDayAfter1900 days (day_in_year days).number (month_of (day_in_year days)).number ((month_of (day_in_year days)).before + 1)
day_after days within =
    let y = day_found (λ year. days_in_year (pos year)) (λ year. day_count (pos year) 1 1) years_follow 1099 1900 2999 days
    (omega arith) refl (omega (arith, first_of_1900, first_of_3000)) in
    let year : ℕ = (day_in_year days).number in
    let before : ℕ = (day_in_year days).before in
    let m = day_found (days_in_month (pos year)) (λ month. day_count (pos year) month 1) (months_follow (pos year)) 11 1 12 before
    (omega arith) refl (omega (arith, year_end (pos year), y.inside)) in
    let month = (month_of (day_in_year days)).number in
    let day = (month_of (day_in_year days)).before + 1 in
    record {
      civil = ((omega (arith, ints, y.low), omega (arith, ints, y.high)), (m.low, m.high), (omega arith, omega (arith, m.inside)));
      late = y.low;
      early = y.high;
      number = omega (arith, first_of_1900, y.sum, m.sum, day_count-day (pos year) month 1 day (omega arith) (omega arith));
    }

-- ---- the day and the minute of a point

record IsFirstMinute (unit : TimeUnit) (point : ℤ) (days minute : ℕ) : Type 0 where
  within : days < 401767
  small : minute < 1440
  is : (number : ℤ) → number +ℤ pos 25567 ≡ pos days → point *ℤ pos (minutes_of_unit unit) ≡ number *ℤ pos 1440 +ℤ pos minute

minutes_first : (unit : TimeUnit) (point : ℤ) → IsDated unit point → (total : ℕ)
    → pos total ≡ point *ℤ pos (minutes_of_unit unit) +ℤ pos 36816480 → IsFirstMinute unit point (total / 1440) (total % 1440)
minutes_first Minute point dated total is =
    let low = dated.not_before in let high = dated.not_after in
    record {
      within = omega (arith, signed_arith);
      small = omega arith;
      is = λ number count. omega (arith, signed_arith);
    }
minutes_first Hour point dated total is =
    let low = dated.not_before in let high = dated.not_after in
    record {
      within = omega (arith, signed_arith);
      small = omega arith;
      is = λ number count. omega (arith, signed_arith);
    }
minutes_first Day point dated total is =
    let low = dated.not_before in let high = dated.not_after in
    record {
      within = omega (arith, signed_arith);
      small = omega arith;
      is = λ number count. omega (arith, signed_arith);
    }

-- how many minutes after 1900-01-01 a point begins
total_of : (unit : TimeUnit) (point : ℤ) → IsDated unit point
    → pos (unsigned_abs (point *ℤ pos (minutes_of_unit unit) +ℤ pos 36816480)) ≡ point *ℤ pos (minutes_of_unit unit) +ℤ pos 36816480
total_of Minute point dated =
    let low = dated.not_before in omega (arith, signed_arith, one_part (point *ℤ pos 1 +ℤ pos 36816480))
total_of Hour point dated =
    let low = dated.not_before in omega (arith, signed_arith, one_part (point *ℤ pos 60 +ℤ pos 36816480))
total_of Day point dated =
    let low = dated.not_before in omega (arith, signed_arith, one_part (point *ℤ pos 1440 +ℤ pos 36816480))

-- ---- the text

value_read : (k : ℕ) → k < 10 → value_of_digit (digit k) ≡ Some k
value_read k small =
    let low : nat_le 48 (48 + k) ≡ true = grind (arith, nat_tests) in
    let high : nat_le (48 + k) 57 ≡ true = grind (arith, nat_tests) in
    let back : 48 + k - 48 ≡ k = omega arith in
    rw (low, high, back) refl

two_read : (n : ℕ) → n < 100 → number2 (digit (n / 10)) (digit (n % 10)) ≡ Some n
two_read n small =
    let back : 10 * (n / 10) + n % 10 ≡ n = omega arith in
    rw (value_read (n / 10) (omega arith), value_read (n % 10) (omega arith), back) refl

four_read : (n : ℕ) → n < 10000
    → number4 (digit (n / 100 / 10)) (digit (n / 100 % 10)) (digit (n % 100 / 10)) (digit (n % 100 % 10)) ≡ Some n
four_read n small =
    let back : 100 * (n / 100) + n % 100 ≡ n = omega arith in
    rw (two_read (n / 100) (omega arith), two_read (n % 100) (omega arith), back) refl

abbrev date_in : TimeUnit → ℕ → ℕ → ℕ → ℕ → WrittenDate
date_in unit year month day minute =
    record { year = year; month = month; day = day; time = time_in unit (minute / 60) (minute % 60) }

text_read : (unit : TimeUnit) (year month day minute : ℕ) → year < 10000 → month < 100 → day < 100 → minute < 1440
    → written_date (text_of_date (date_in unit year month day minute)) ≡ Some (date_in unit year month day minute)
text_read unit year month day minute y m d small =
    let hour = minute / 60 in
    let rest = minute % 60 in
    ap written_date (sym (text_of_date-cut year month day hour rest _ _ _ _ _ _ _ _ _ _ _ _ refl refl refl refl refl unit))
    ∙ written_date-cut year month day hour rest _ _ _ _ _ _ _ _ _ _ _ _ (four_read year y) (two_read month m) (two_read day d)
    (two_read hour (omega arith)) (two_read rest (omega arith)) unit

-- ---- the point

abbrev ok_point : ℤ → Result ℤ DateFault
ok_point point = Ok point

some_from_ok : (point other : ℤ) → ok_point point ≡ ok_point other → Some point ≡ Some other
some_from_ok point other e = cc

by_tests : (finer day time year : Bool) (point other : ℤ)
    → (if finer then Err TooFine else (if day && time then (if year then Ok point else Err OutOfRange) else Err NoSuchDay)) ≡ ok_point other
    → (if not finer && day && time && year then Some point else None) ≡ Some other
by_tests true day time year point other e = absurd cc
by_tests false false time year point other e = absurd cc
by_tests false true false year point other e = absurd cc
by_tests false true true false point other e = absurd cc
by_tests false true true true point other e = some_from_ok point other e

point_answered : (unit : TimeUnit) (date : WrittenDate) (point : ℤ) → answer unit (Some date) ≡ Ok point → point_in unit date ≡ Some point
point_answered unit date point e =
    by_tests (is_finer_form date.time.form unit) (is_day date.year date.month date.day) (is_time date.time.hour date.time.minute)
    (is_year date.year) (point_of unit date) point e

has_day : (m d n : ℕ) → 1 ≤ m → m ≤ 12 → 1 ≤ d → d ≤ n → (nat_le 1 m && nat_le m 12 && nat_le 1 d && nat_le d n) ≡ true
has_day m d n a b e f = grind (arith, nat_tests)

has_year : (year : ℕ) → 1900 ≤ year → year ≤ 2999 → is_year year ≡ true
has_year year late early = grind (arith, nat_tests)

day_below_100 : (year : ℤ) (month day : ℕ) → day ≤ days_in_month year month → day < 100
day_below_100 year month day small = omega (arith, (days_in_month_bounds year month).0, small)

by_day : (unit : TimeUnit) (point : ℤ) (days year month day minute : ℕ) → IsDayAfter1900 days year month day
    → IsFirstMinute unit point days minute → date_point unit (date_text unit point) ≡ Some point
by_day unit point days year month day minute date first =
    let counted = days_from_civil-day_count (pos year) month day in
    let same = first.is (days_from_civil (pos year) month day) (omega (arith, signed_arith, counted, date.number)) in
    let text = date_text-first_minute unit year month day minute point first.small date.civil date.late date.early same in
    let read = text_read unit year month day minute (omega (arith, date.early)) (omega (arith, date.civil.1.1))
    (day_below_100 (pos year) month day date.civil.2.1) first.small in
    let is_here : is_day year month day ≡ true =
    has_day month day (days_in_month (pos year) month) date.civil.1.0 date.civil.1.1 date.civil.2.0 date.civil.2.1 in
    let answered = answer-first_minute unit year month day minute point first.small is_here (has_year year date.late date.early) same in
    ap (date_point unit) text ∙ ap (option_and_then (point_in unit)) read
    ∙ point_answered unit (date_in unit year month day minute) point answered

-- the text of a point's date is read back as the point
pub point_read : (unit : TimeUnit) (point : ℤ) → IsDated unit point → date_point unit (date_text unit point) ≡ Some point
point_read unit point dated =
    let total = unsigned_abs (point *ℤ pos (minutes_of_unit unit) +ℤ pos 36816480) in
    let first = minutes_first unit point dated total (total_of unit point dated) in
    by_day unit point (total / 1440) _ _ _ (total % 1440) (day_after (total / 1440) first.within) first
