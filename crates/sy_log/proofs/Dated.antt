-- The point that a date's text has is one of a date.
use Rattle.std.proofs.Common.{◌≡◌, ℤ, ◌≤ℤ◌, Bool, true, false, ◌&&◌, not, int_le, if◌then◌else◌, List, ℕ, Option, Some, None, option_and_then, Result, Ok, Err, refl, subst, arith}
use Rattle.std.proofs.lemmas.Grind.{common_steps}
use Rattle.sy_base.specs.declared.time.TimeUnit.{TimeUnit}
use Rattle.sy_base.specs.Dates.{WrittenDate, written_date, is_date, is_finer_form, is_day, is_time, is_year, point_of}
use Rattle.sy_base.specs.Points.{IsDated, least_point, greatest_point}
use Rattle.sy_time.specs.declared.date.DateFault.{DateFault}
use Rattle.sy_time.specs.declared.date.DateFault.TheVariants.{NoSuchDay, OutOfRange}
use Rattle.sy_time.proofs.Ranges.{IsDated-point_or_fault}
use Rattle.sy_core.specs.Values.{is_dated}
use Rattle.sy_literal.specs.Values.{date_point, point_in}
use Rattle.sy_log.proofs.Booleans.{both}

abbrev at_point : ℤ → Result ℤ DateFault
at_point point = Ok point

by_tests : (finer day time year : Bool) (point : ℤ) → (not finer && day && time && year) ≡ true
    → at_point point ≡ (if day && time then (if year then Ok point else Err OutOfRange) else Err NoSuchDay)
by_tests false true true true point passes = refl
by_tests true day time year point passes = absurd cc
by_tests false false time year point passes = absurd cc
by_tests false true false year point passes = absurd cc
by_tests false true true false point passes = absurd cc

some_same : (point other : ℤ) → Some point ≡ Some other → point ≡ other
some_same point other e = cc

dated_in : (unit : TimeUnit) (date : WrittenDate) (test : Bool) → is_date unit date ≡ test → (point : ℤ)
    → (if test then Some (point_of unit date) else None) ≡ Some point → IsDated unit point
dated_in unit date true is point e =
    subst (IsDated unit) (some_same (point_of unit date) point e)
    (IsDated-point_or_fault unit date (at_point (point_of unit date))
    (by_tests (is_finer_form date.time.form unit) (is_day date.year date.month date.day) (is_time date.time.hour date.time.minute)
    (is_year date.year) (point_of unit date) is))
dated_in unit date false is point e = absurd cc

written_dated : (unit : TimeUnit) (date : Option WrittenDate) (point : ℤ) → option_and_then (point_in unit) date ≡ Some point
    → IsDated unit point
written_dated unit None point e = absurd cc
written_dated unit (Some date) point e = dated_in unit date (is_date unit date) refl point e

pub point_dated : (unit : TimeUnit) (text : List ℕ) (point : ℤ) → date_point unit text ≡ Some point → IsDated unit point
point_dated unit text point e = written_dated unit (written_date text) point e

at_most : (a b : ℤ) → a ≤ℤ b → int_le a b ≡ true
at_most a b le = grind (arith, common_steps)

pub dated_test : (unit : TimeUnit) (point : ℤ) → IsDated unit point → is_dated unit point ≡ true
dated_test unit point dated =
    both (int_le (least_point unit) point) (int_le point (greatest_point unit)) (at_most (least_point unit) point dated.not_before)
    (at_most point (greatest_point unit) dated.not_after)
