-- The test of a day against the calendar's own fact.
use Rattle.std.proofs.Common.{◌≡◌, ℕ, ◌<◌, ◌≤◌, pos, ◌≤ℤ◌, arith, IsTrue, true, nat_le, ◌&&◌, ap, subst, sym, ◌∙◌, unsigned_abs, ℤ, ◌+◌, ◌*◌, ◌+ℤ◌, ◌*ℤ◌, Ok, Err, Result, IfOk, IfSome}
use Rattle.std.specs.Result.{result_ok}
use Rattle.jiff_core.specs.declared.civil.date.Date.{Date}
use Rattle.jiff_core.specs.Date.{IsYmd, epoch_day}
use Rattle.std.proofs.lemmas.Bool.Decides.{nat_tests}
use Rattle.std.proofs.lemmas.Int.{ints}
use Rattle.jiff_core.proofs.SignedLemmas.{signed_arith}
use Rattle.jiff_core.specs.Calendar.{IsCivilDate, IsDate, days_in_month, days_from_civil}
use Rattle.sy_base.specs.Dates.{is_day}

record Between (m d n : ℕ) : Type 0 where
  low : 1 ≤ m
  high : m ≤ 12
  first : 1 ≤ d
  last : d ≤ n

between : (m d n : ℕ) → (nat_le 1 m && nat_le m 12 && nat_le 1 d && nat_le d n) ≡ true → Between m d n
between m d n h = record { low = grind (arith, nat_tests); high = grind (arith, nat_tests); first = grind (arith, nat_tests); last = grind (arith, nat_tests) }

test : (m d n : ℕ) → 1 ≤ m → m ≤ 12 → 1 ≤ d → d ≤ n → (nat_le 1 m && nat_le m 12 && nat_le 1 d && nat_le d n) ≡ true
test m d n a b e f = grind (arith, nat_tests)

below : (a b : ℕ) → a ≤ b → pos a ≤ℤ pos b
below a b h = omega (arith, ints)

above : (a b : ℕ) → pos a ≤ℤ pos b → a ≤ b
above a b h = omega (arith, ints)

pub IsCivilDate-from_test : (y m d : ℕ) → y < 10000 → IsTrue (is_day y m d) → IsCivilDate (pos y) m d
IsCivilDate-from_test y m d small day =
    let b = between m d (days_in_month (pos y) m) day in
    ((omega (arith, ints), omega (arith, ints)), (b.low, b.high), (b.first, b.last))

pub IsDate-from_test : (y m d : ℕ) → y < 10000 → IsTrue (is_day y m d) → IsDate (pos y) (pos m) (pos d)
IsDate-from_test y m d small day =
    let date = IsCivilDate-from_test y m d small day in
    (date.0, (below 1 m date.1.0, below m 12 date.1.1), (below 1 d date.2.0, below d _ date.2.1))

pub is_day-from_IsDate : (y m d : ℕ) → IsDate (pos y) (pos m) (pos d) → IsTrue (is_day y m d)
is_day-from_IsDate y m d day = test m d (days_in_month (pos y) m) (above 1 m day.1.0) (above m 12 day.1.1) (above 1 d day.2.0) (above d _ day.2.1)

one : (a b : ℕ) → pos a ≡ pos b → a ≡ b
one a b e = ap unsigned_abs e

pub epoch_day-of_Ymd : (E : Type 0) (r : Result Date E) (y m d : ℕ) → IfOk r (IsYmd (pos y) (pos m) (pos d))
    → IfSome (result_ok r) (λ date. epoch_day date ≡ days_from_civil (pos y) m d)
epoch_day-of_Ymd E (Ok x) y m d p =
    ap (λ k. days_from_civil k x.month x.day) p.0 ∙ ap (λ k. days_from_civil (pos y) k x.day) (one _ m p.1) ∙ ap (days_from_civil (pos y) m) (one _ d p.2)
epoch_day-of_Ymd E (Err e) y m d p = tt

-- a date of the calendar has a day that it has
pub is_day-date : (date : Date) (year : ℕ) → pos year ≡ date.year → IsTrue (is_day year date.month date.day)
is_day-date date year same =
    test date.month date.day (days_in_month (pos year) date.month) date.month_in.0 date.month_in.1 date.day_in.0 (subst (λ (y : ℤ). date.day ≤ days_in_month y date.month) (sym same) date.day_in.1)

pub civil : (date : Date) → IsCivilDate date.year date.month date.day
civil date = (date.year_in, date.month_in, date.day_in)

pub civil-year : (date : Date) (year : ℕ) → pos year ≡ date.year → IsCivilDate (pos year) date.month date.day
civil-year date year same = subst (λ (y : ℤ). IsCivilDate y date.month date.day) (sym same) (civil date)

-- a minute of a day, counted from 1970 by the day's number and from the calendar's first date by its count
pub minute_of_day : (first number : ℤ) (day minute : ℕ)
    → first +ℤ pos 6295085280 ≡ pos (day * 1440 + minute) → number +ℤ pos 4371587 ≡ pos day
    → first ≡ number *ℤ pos 1440 +ℤ pos minute
minute_of_day first number day minute counted numbered = omega (arith, signed_arith)
