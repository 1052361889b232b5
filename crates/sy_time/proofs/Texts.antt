-- What is written is read back.
use Rattle.std.proofs.Common.{◌≡◌, ℕ, ◌/◌, ◌%◌, ◌<◌, pos, ℤ, ◌+ℤ◌, ◌*ℤ◌, refl, ap, arith, true, false, ◌∙◌, Some, Ok, take, List, [], ◌∷◌, ◌++◌, codes}
use Rattle.std.specs.declared.option.Option.{Option}
use Rattle.std.proofs.lemmas.Bool.Decides.{nat_tests}
use Rattle.jiff_core.specs.Calendar.{days_from_civil}
use Rattle.jiff_core.proofs.SignedLemmas.{signed_arith}
use Rattle.sy_base.specs.declared.time.TimeUnit.{TimeUnit}
use Rattle.sy_base.specs.declared.time.TimeUnit.TheVariants.{Minute, Hour, Day}
use Rattle.sy_base.specs.Dates.{TimeOfDay, WrittenDate, is_finer_form, number2, number4, at_hour, at_minute, midnight, with_parts, written_date, text_length, time_in, text_of_date, two_digits, four_digits, is_day, is_time, is_year, point_of}
use Rattle.sy_base.specs.Points.{minutes_of_unit}
use Rattle.sy_time.specs.Date.{answer}

parts : (y m d : Option ℕ) (t : Option TimeOfDay) (year month day : ℕ) (time : TimeOfDay)
    → y ≡ Some year → m ≡ Some month → d ≡ Some day → t ≡ Some time
    → with_parts y m d t ≡ Some (record { year = year; month = month; day = day; time = time })
parts y m d t year month day time is_year is_month is_day is_time = rw (is_year, is_month, is_day, is_time) refl

minutes : (h n : Option ℕ) (hour minute : ℕ) → h ≡ Some hour → n ≡ Some minute
    → at_minute h n ≡ Some (record { form = Minute; hour = hour; minute = minute })
minutes h n hour minute is_hour is_minute = rw (is_hour, is_minute) refl

hours : (h : Option ℕ) (hour : ℕ) → h ≡ Some hour
    → at_hour h ≡ Some (record { form = Hour; hour = hour; minute = 0 })
hours h hour is_hour = rw is_hour refl

-- sixteen bytes that are a text of the unit Minute, cut at the unit's length, write the date and the time in the unit
pub written_date-cut : (year month day hour minute y₁ y₂ y₃ y₄ m₁ m₂ d₁ d₂ h₁ h₂ n₁ n₂ : ℕ)
    → number4 y₁ y₂ y₃ y₄ ≡ Some year → number2 m₁ m₂ ≡ Some month → number2 d₁ d₂ ≡ Some day
    → number2 h₁ h₂ ≡ Some hour → number2 n₁ n₂ ≡ Some minute
    → (unit : TimeUnit)
    → written_date (take (text_length unit) (y₁ ∷ y₂ ∷ y₃ ∷ y₄ ∷ 45 ∷ m₁ ∷ m₂ ∷ 45 ∷ d₁ ∷ d₂ ∷ 84 ∷ h₁ ∷ h₂ ∷ 58 ∷ n₁ ∷ n₂ ∷ []))
    ≡ Some (record { year = year; month = month; day = day; time = time_in unit hour minute })
written_date-cut year month day hour minute y₁ y₂ y₃ y₄ m₁ m₂ d₁ d₂ h₁ h₂ n₁ n₂ y m d h n Minute =
    parts (number4 y₁ y₂ y₃ y₄) (number2 m₁ m₂) (number2 d₁ d₂) (at_minute (number2 h₁ h₂) (number2 n₁ n₂)) year month day _ y m d (minutes (number2 h₁ h₂) (number2 n₁ n₂) hour minute h n)
written_date-cut year month day hour minute y₁ y₂ y₃ y₄ m₁ m₂ d₁ d₂ h₁ h₂ n₁ n₂ y m d h n Hour =
    parts (number4 y₁ y₂ y₃ y₄) (number2 m₁ m₂) (number2 d₁ d₂) (at_hour (number2 h₁ h₂)) year month day _ y m d (hours (number2 h₁ h₂) hour h)
written_date-cut year month day hour minute y₁ y₂ y₃ y₄ m₁ m₂ d₁ d₂ h₁ h₂ n₁ n₂ y m d h n Day =
    parts (number4 y₁ y₂ y₃ y₄) (number2 m₁ m₂) (number2 d₁ d₂) (Some midnight) year month day midnight y m d refl

joined_parts : (y y' m m' d d' t t' : List ℕ) → y ≡ y' → m ≡ m' → d ≡ d' → t ≡ t'
    → y ++ codes "-" ++ m ++ codes "-" ++ d ++ t ≡ y' ++ codes "-" ++ m' ++ codes "-" ++ d' ++ t'
joined_parts y y' m m' d d' t t' same_year same_month same_day same_time = rw (same_year, same_month, same_day, same_time) refl

joined_time : (h h' n n' : List ℕ) → h ≡ h' → n ≡ n' → codes "T" ++ h ++ codes ":" ++ n ≡ codes "T" ++ h' ++ codes ":" ++ n'
joined_time h h' n n' same_hour same_minute = rw (same_hour, same_minute) refl

-- and they are its text there
pub text_of_date-cut : (year month day hour minute y₁ y₂ y₃ y₄ m₁ m₂ d₁ d₂ h₁ h₂ n₁ n₂ : ℕ)
    → y₁ ∷ y₂ ∷ y₃ ∷ y₄ ∷ [] ≡ four_digits year → m₁ ∷ m₂ ∷ [] ≡ two_digits month → d₁ ∷ d₂ ∷ [] ≡ two_digits day
    → h₁ ∷ h₂ ∷ [] ≡ two_digits hour → n₁ ∷ n₂ ∷ [] ≡ two_digits minute
    → (unit : TimeUnit)
    → take (text_length unit) (y₁ ∷ y₂ ∷ y₃ ∷ y₄ ∷ 45 ∷ m₁ ∷ m₂ ∷ 45 ∷ d₁ ∷ d₂ ∷ 84 ∷ h₁ ∷ h₂ ∷ 58 ∷ n₁ ∷ n₂ ∷ [])
    ≡ text_of_date (record { year = year; month = month; day = day; time = time_in unit hour minute })
text_of_date-cut year month day hour minute y₁ y₂ y₃ y₄ m₁ m₂ d₁ d₂ h₁ h₂ n₁ n₂ y m d h n Minute =
    joined_parts _ (four_digits year) _ (two_digits month) _ (two_digits day) _ (codes "T" ++ two_digits hour ++ codes ":" ++ two_digits minute) y m d (joined_time _ (two_digits hour) _ (two_digits minute) h n)
text_of_date-cut year month day hour minute y₁ y₂ y₃ y₄ m₁ m₂ d₁ d₂ h₁ h₂ n₁ n₂ y m d h n Hour =
    joined_parts _ (four_digits year) _ (two_digits month) _ (two_digits day) _ (codes "T" ++ two_digits hour) y m d (ap (λ hs. codes "T" ++ hs) h)
text_of_date-cut year month day hour minute y₁ y₂ y₃ y₄ m₁ m₂ d₁ d₂ h₁ h₂ n₁ n₂ y m d h n Day =
    joined_parts _ (four_digits year) _ (two_digits month) _ (two_digits day) [] [] y m d refl

-- a date whose first minute is a point's is read as that point
pub point_of-first_minute : (unit : TimeUnit) (year month day minute : ℕ) (point : ℤ) → minute < 1440
    → point *ℤ pos (minutes_of_unit unit) ≡ days_from_civil (pos year) month day *ℤ pos 1440 +ℤ pos minute
    → point_of unit (record { year = year; month = month; day = day; time = time_in unit (minute / 60) (minute % 60) }) ≡ point
point_of-first_minute Minute year month day minute point small same = omega (arith, signed_arith)
point_of-first_minute Hour year month day minute point small same = omega (arith, signed_arith)
point_of-first_minute Day year month day minute point small same = omega (arith, signed_arith)

is_time-in : (unit : TimeUnit) (minute : ℕ) → minute < 1440 → is_time (time_in unit (minute / 60) (minute % 60)).hour (time_in unit (minute / 60) (minute % 60)).minute ≡ true
is_time-in Minute minute small = grind (arith, nat_tests)
is_time-in Hour minute small = grind (arith, nat_tests)
is_time-in Day minute small = refl

is_finer_form-own : (unit : TimeUnit) → is_finer_form unit unit ≡ false
is_finer_form-own Minute = refl
is_finer_form-own Hour = refl
is_finer_form-own Day = refl

time_in-form : (unit : TimeUnit) (hour minute : ℕ) → (time_in unit hour minute).form ≡ unit
time_in-form Minute hour minute = refl
time_in-form Hour hour minute = refl
time_in-form Day hour minute = refl

-- a date with no fault is answered by its point
answer-no_fault : (unit : TimeUnit) (date : WrittenDate) → is_finer_form date.time.form unit ≡ false
    → is_day date.year date.month date.day ≡ true → is_time date.time.hour date.time.minute ≡ true → is_year date.year ≡ true
    → answer unit (Some date) ≡ Ok (point_of unit date)
answer-no_fault unit date not_finer has_day has_time in_range = rw (not_finer, has_day, has_time, in_range) refl

-- and so is one of the calendar whose first minute is a point's
pub answer-first_minute : (unit : TimeUnit) (year month day minute : ℕ) (point : ℤ) → minute < 1440
    → is_day year month day ≡ true → is_year year ≡ true
    → point *ℤ pos (minutes_of_unit unit) ≡ days_from_civil (pos year) month day *ℤ pos 1440 +ℤ pos minute
    → answer unit (Some (record { year = year; month = month; day = day; time = time_in unit (minute / 60) (minute % 60) })) ≡ Ok point
answer-first_minute unit year month day minute point small has_day in_range same =
    answer-no_fault unit (record { year = year; month = month; day = day; time = time_in unit (minute / 60) (minute % 60) }) (rw time_in-form (is_finer_form-own unit)) has_day (is_time-in unit minute small) in_range
    ∙ ap Ok (point_of-first_minute unit year month day minute point small same)
