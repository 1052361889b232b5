-- The years of the day numbers of dates.
use Rattle.std.proofs.Common.{◌≡◌, ℕ, ℤ, ◌≤◌, pos, ◌+ℤ◌, ◌≤ℤ◌, ◌<ℤ◌, refl, arith}
use Rattle.std.proofs.lemmas.Int.{by_lt_z}
use Rattle.jiff_core.specs.declared.civil.date.Date.{Date}
use Rattle.jiff_core.specs.Date.{epoch_day}
use Rattle.jiff_core.specs.Calendar.{day_count}
use Rattle.jiff_core.proofs.SignedLemmas.{signed_arith}
use Rattle.jiff_core.proofs.MarchLemmas.{day_count-early}
use Rattle.jiff_core.proofs.CalendarLemmas.{days_from_civil-day_count, day_count-lt_year, day_count-later_year, day_count-day_of_year}
use Rattle.sy_time.proofs.Days.{civil}

pub first_of_1900 : day_count (pos 1900) 1 1 ≡ 4346386
first_of_1900 = day_count-early (pos 1900) 11899 1 1 refl (omega arith) (omega arith) (omega arith)

pub first_of_3000 : day_count (pos 3000) 1 1 ≡ 4748153
first_of_3000 = day_count-early (pos 3000) 12999 1 1 refl (omega arith) (omega arith) (omega arith)

-- a day from the first of 1900 on is of no year before
pub year-not_before : (d : Date) (day : ℕ) → epoch_day d +ℤ pos 4371587 ≡ pos day → 4346020 ≤ day → pos 1900 ≤ℤ d.year
year-not_before d day value least =
    by_lt_z d.year (pos 1900)
    (λ early. absurd (omega (arith, signed_arith, first_of_1900, days_from_civil-day_count d.year d.month d.day, day_count-lt_year d.year d.month d.day (pos 1900) 1 1 (civil d) (omega arith) early)))
    (λ late. late)

-- a year after 2999 begins at the first of 3000 or later
later_than_2999 : (year : ℤ) → pos 2999 <ℤ year → 4748153 ≤ day_count year 1 1
later_than_2999 year late =
    by_lt_z (pos 3000) year
    (λ later. omega (arith, signed_arith, first_of_3000, day_count-later_year (pos 3000) year (omega (arith, signed_arith)) later))
    (λ first. let same : year ≡ pos 3000 = omega (arith, signed_arith) in rw same (omega (arith, first_of_3000)))

-- and a day before the first of 3000 is of no year from 3000 on
pub year-not_after : (d : Date) (day : ℕ) → epoch_day d +ℤ pos 4371587 ≡ pos day → day ≤ 4747786 → d.year ≤ℤ pos 2999
year-not_after d day value greatest =
    by_lt_z (pos 2999) d.year
    (λ late. absurd (omega (arith, signed_arith, days_from_civil-day_count d.year d.month d.day, day_count-day_of_year d.year d.month d.day d.day_in.0, later_than_2999 d.year late)))
    (λ early. early)
