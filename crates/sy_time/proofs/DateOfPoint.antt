-- The date of a point, found by counting off years and months.
use Rattle.std.proofs.Common.{◌≡◌, ℕ, zero, suc, ◌+◌, ◌-◌, ◌*◌, ◌/◌, ◌%◌, ◌<◌, ◌≤◌, pos, ℤ, ◌+ℤ◌, ◌-ℤ◌, ◌*ℤ◌, refl, ap, arith, true, false, ◌∙◌, nat_lt}
use Rattle.std.proofs.lemmas.Bool.Decides.{nat_tests}
use Rattle.jiff_core.specs.Calendar.{day_count, day_of_year, days_from_civil, days_in_month, days_in_year, IsCivilDate}
use Rattle.jiff_core.proofs.SignedLemmas.{one_part, signed_arith}
use Rattle.jiff_core.proofs.CalendarLemmas.{days_from_civil-day_count, day_count-next_year, day_count-next_month, day_count-day_of_year, day_count-day, day_of_year_bound}
use Rattle.sy_base.specs.declared.time.TimeUnit.{TimeUnit}
use Rattle.sy_base.specs.declared.time.TimeUnit.TheVariants.{Minute, Hour, Day}
use Rattle.sy_base.specs.Dates.{DayIn, day_in, day_in_year, day_in_month, TimeOfDay, WrittenDate, date_in_year, date_at, minutes_since_1900, time_in, text_of_date, date_text}
use Rattle.sy_base.specs.Points.{least_point, minutes_of_unit}
use Rattle.sy_time.proofs.Ranges.{first_of_year}
use Rattle.sy_time.proofs.Years.{first_of_1900}

-- years or months: each begins where the one before it ends
record Follow (length_of start_of : ℕ → ℕ) : Type 0 where
  next : (i : ℕ) → 1 ≤ i → start_of (suc i) ≡ start_of i + length_of i

in_order : (length_of start_of : ℕ → ℕ) → Follow length_of start_of
    → (k from number : ℕ) → 1 ≤ from → k + from ≡ number → start_of from ≤ start_of number
in_order length_of start_of follow zero from number low same =
    let is : from ≡ number = omega arith in rw is (omega arith)
in_order length_of start_of follow (suc k) from number low same =
    omega (arith, follow.next from low, in_order length_of start_of follow k (suc from) number (omega arith) (omega arith))

is_day_in : (number number' before before' : ℕ) → number ≡ number' → before ≡ before'
    → (let day : DayIn = record { number = number; before = before } in day) ≡ record { number = number'; before = before' }
is_day_in number number' before before' same_number same_before = rw (same_number, same_before) refl

-- a day is found in the one that has it
day_in-number : (length_of start_of : ℕ → ℕ) → Follow length_of start_of
    → (most k from number days before : ℕ) → 1 ≤ from → k + from ≡ number → k ≤ most
    → start_of from + days ≡ start_of number + before → before < length_of number
    → day_in length_of most from days ≡ record { number = number; before = before }
unfolding day_in
day_in-number length_of start_of follow zero zero from number days before low same most_k sum inside =
    let is : from ≡ number = omega arith in
    is_day_in from number days before is (omega (arith, ap start_of is))
day_in-number length_of start_of follow zero (suc k) from number days before low same most_k sum inside = absurd (omega arith)
day_in-number length_of start_of follow (suc most) zero from number days before low same most_k sum inside =
    let is : from ≡ number = omega arith in
    let left : days ≡ before = omega (arith, ap start_of is) in
    let part : nat_lt days (length_of from) ≡ true = rw (is, left) (grind (arith, nat_tests)) in
    rw part (is_day_in from number days before is left)
day_in-number length_of start_of follow (suc most) (suc k) from number days before low same most_k sum inside =
    let on = in_order length_of start_of follow k (suc from) number (omega arith) (omega arith) in
    let next = follow.next from low in
    let whole : nat_lt days (length_of from) ≡ false = grind (arith, nat_tests) in
    rw whole (day_in-number length_of start_of follow most k (suc from) number (days - length_of from) before (omega arith) (omega arith) (omega arith) (omega arith) inside)

years_follow : Follow (λ year. days_in_year (pos year)) (λ year. day_count (pos year) 1 1)
years_follow = record { next = λ i low. day_count-next_year (pos i) (pos (suc i)) (omega (arith, signed_arith)) (omega (arith, signed_arith)) }

plus_one : (i : ℕ) → i + 1 ≡ suc i
plus_one i = omega arith

months_follow : (year : ℤ) → Follow (days_in_month year) (λ month. day_count year month 1)
months_follow year = record { next = λ i low. rw (plus_one i) at (day_count-next_month year i low) }

day_in_year-civil : (year month day days : ℕ) → IsCivilDate (pos year) month day → 1900 ≤ year → year ≤ 2999
    → days + 4346386 ≡ day_count (pos year) month day
    → day_in_year days ≡ record { number = year; before = day_of_year (pos year) month day - 1 }
day_in_year-civil year month day days date late early sum =
    day_in-number (λ year. days_in_year (pos year)) (λ year. day_count (pos year) 1 1) years_follow 1099 (year - 1900) 1900 year days _ (omega arith) (omega arith) (omega arith)
    (omega (arith, first_of_1900, day_count-day_of_year (pos year) month day date.2.0))
    (omega (arith, first_of_1900, day_of_year_bound (pos year) month day date, day_count-day_of_year (pos year) month day date.2.0))

day_in_month-civil : (year month day : ℕ) → IsCivilDate (pos year) month day
    → day_in_month (record { number = year; before = day_of_year (pos year) month day - 1 }) ≡ record { number = month; before = day - 1 }
day_in_month-civil year month day date =
    day_in-number (days_in_month (pos year)) (λ month. day_count (pos year) month 1) (months_follow (pos year)) 11 (month - 1) 1 month _ _ (omega arith) (omega arith) (omega arith)
    (omega (arith, day_count-day_of_year (pos year) month day date.2.0, day_count-day (pos year) month day 1 date.2.0 (omega arith)))
    (omega arith)

date_of_month : (year month day : ℕ) (time : TimeOfDay) (found : DayIn) → 1 ≤ day → found ≡ record { number = month; before = day - 1 }
    → (let date : WrittenDate = record { year = year; month = found.number; day = found.before + 1; time = time } in date)
    ≡ record { year = year; month = month; day = day; time = time }
date_of_month year month day time found first is =
    let back : day - 1 + 1 ≡ day = omega arith in
    rw (is, back) refl

date_in_year-civil : (year month day days : ℕ) (time : TimeOfDay) → IsCivilDate (pos year) month day → 1 ≤ day → 1900 ≤ year → year ≤ 2999
    → days + 4346386 ≡ day_count (pos year) month day
    → date_in_year (day_in_year days) time ≡ record { year = year; month = month; day = day; time = time }
date_in_year-civil year month day days time date first late early sum =
    ap (λ found. date_in_year found time) (day_in_year-civil year month day days date late early sum)
    ∙ date_of_month year month day time _ first (day_in_month-civil year month day date)

-- so many minutes after the first of 1900
minutes_since-first : (unit : TimeUnit) (number : ℤ) (days minute : ℕ) (point : ℤ)
    → point *ℤ pos (minutes_of_unit unit) ≡ number *ℤ pos 1440 +ℤ pos minute → number +ℤ pos 25567 ≡ pos days
    → minutes_since_1900 unit point ≡ days * 1440 + minute
minutes_since-first Minute number days minute point same count = omega (arith, signed_arith, one_part (point -ℤ least_point Minute))
minutes_since-first Hour number days minute point same count = omega (arith, signed_arith, one_part (point -ℤ least_point Hour))
minutes_since-first Day number days minute point same count = omega (arith, signed_arith, one_part (point -ℤ least_point Day))

at_minutes : (unit : TimeUnit) (minutes days minute : ℕ) → minutes ≡ days * 1440 + minute → minute < 1440
    → date_in_year (day_in_year (minutes / 1440)) (time_in unit (minutes / 60 % 24) (minutes % 60))
    ≡ date_in_year (day_in_year days) (time_in unit (minute / 60) (minute % 60))
at_minutes unit minutes days minute sum small =
    let day : minutes / 1440 ≡ days = omega arith in
    let hour : minutes / 60 % 24 ≡ minute / 60 = omega arith in
    let rest : minutes % 60 ≡ minute % 60 = omega arith in
    ap (λ d. date_in_year (day_in_year d) (time_in unit (minutes / 60 % 24) (minutes % 60))) day
    ∙ ap (λ h. date_in_year (day_in_year days) (time_in unit h (minutes % 60))) hour
    ∙ ap (λ m. date_in_year (day_in_year days) (time_in unit (minute / 60) m)) rest

-- the date of a point, by its first minute
date_at-first_minute : (unit : TimeUnit) (year month day minute : ℕ) (point : ℤ) → minute < 1440
    → IsCivilDate (pos year) month day → 1900 ≤ year → year ≤ 2999
    → point *ℤ pos (minutes_of_unit unit) ≡ days_from_civil (pos year) month day *ℤ pos 1440 +ℤ pos minute
    → date_at unit point ≡ record { year = year; month = month; day = day; time = time_in unit (minute / 60) (minute % 60) }
date_at-first_minute unit year month day minute point small date late early same =
    let days = day_count (pos year) month day - 4346386 in
    let not_before : days + 4346386 ≡ day_count (pos year) month day = omega (arith, first_of_year year late, day_count-day_of_year (pos year) month day date.2.0) in
    at_minutes unit (minutes_since_1900 unit point) days minute
    (minutes_since-first unit (days_from_civil (pos year) month day) days minute point same (omega (arith, signed_arith, not_before, days_from_civil-day_count (pos year) month day))) small
    ∙ date_in_year-civil year month day days _ date date.2.0 late early not_before

-- and its text
pub date_text-first_minute : (unit : TimeUnit) (year month day minute : ℕ) (point : ℤ) → minute < 1440
    → IsCivilDate (pos year) month day → 1900 ≤ year → year ≤ 2999
    → point *ℤ pos (minutes_of_unit unit) ≡ days_from_civil (pos year) month day *ℤ pos 1440 +ℤ pos minute
    → date_text unit point ≡ text_of_date (record { year = year; month = month; day = day; time = time_in unit (minute / 60) (minute % 60) })
unfolding date_text
date_text-first_minute unit year month day minute point small date late early same =
    ap text_of_date (date_at-first_minute unit year month day minute point small date late early same)
