use Rattle.std.proofs.Common.{rules, ◌≡◌, ◌∙◌, ◌*ℤ◌, ◌+ℤ◌, pos, ap, sym, arith, true, FitsSigned, w64, to_z-of_z}
use Rattle.std.proofs.lemmas.Bool.Decides.{nat_tests}
use Rattle.jiff_core.specs.Calendar.{days_from_civil}
use Rattle.sy_base.specs.Dates.{is_year}
use Rattle.sy_base.specs.Points.{minutes_of_unit}
use Rattle.sy_time.specs.Date.{answer, date_of}
use Rattle.sy_time.proofs.Days.{is_day-date, civil-year, minute_of_day}
use Rattle.sy_time.proofs.Texts.{answer-first_minute}
use Rattle.sy_time.proofs.DateOfPoint.{date_text-first_minute}
use Rattle.sy_time.proofs.write.write_date.Goals as goal

pub returns : goal.returns
returns c =
    let unit = c.args.unit in
    let date = c.date_of_day-date.result in
    let year = c.year_number.result in
    let same = c.year_number.ensures.value in
    let day = c.day_and_minute-day.result.0 in
    let minute = c.day_and_minute-day.result.1 in
    let small = c.day_and_minute-day.ensures.minute in
    let in_range : is_year year ≡ true = grind (arith, nat_tests) in
    let number : days_from_civil (pos year) date.month date.day +ℤ pos 4371587 ≡ pos day = rw same c.date_of_day-date.ensures.value in
    let fits : FitsSigned w64 c.args.point = c.ranges.point in
    let counted = simp to_z-of_z at c.day_and_minute-day.ensures.value in
    let first : c.args.point *ℤ pos (minutes_of_unit unit) ≡ days_from_civil (pos year) date.month date.day *ℤ pos 1440 +ℤ pos minute = minute_of_day _ (days_from_civil (pos year) date.month date.day) day minute counted number in
    let read = ap (answer unit) (c.minute_text-text.ensures.read unit)
    ∙ answer-first_minute unit year date.month date.day minute c.args.point small (is_day-date date year same) in_range first in
    let found = date_text-first_minute unit year date.month date.day minute c.args.point small (civil-year date year same) c.year_number.ensures.not_before c.year_number.ensures.not_after first in
    record {
      length = search rules;
      text = ap (date_of unit) c.copy_front.ensures.front ∙ rw c.text_length-length.ensures.value read;
      written = c.copy_front.ensures.front ∙ rw c.text_length-length.ensures.value (c.minute_text-text.ensures.written unit ∙ sym found);
      rest = search rules;
    }
