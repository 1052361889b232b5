-- The points from start to a date.
use Rattle.std.proofs.Common.{◌≡◌, ℤ, pos, ◌+ℤ◌, ◌-ℤ◌, ◌≤ℤ◌, int_lt, nat_abs, false, cond, List, sym, ◌∙◌, ap, arith, to_z, of_z, w64, rules, FitsSigned}
use Rattle.std.proofs.lemmas.Int.{ints, to_z-of_z}
use Rattle.sy_base.specs.declared.time.TimeUnit.{TimeUnit}
use Rattle.sy_base.specs.declared.time.TimeUnit.TheVariants.{Minute, Hour, Day as OneDay}
use Rattle.sy_base.specs.Points.{IsDated}
use Rattle.sy_core.specs.declared.deed.Deed.{Deed}
use Rattle.sy_core.specs.declared.happening.Happening.{Happening}
use Rattle.sy_core.specs.Tables.{table_before, table_after, table_as_of}
use Rattle.sy_atoms.proofs.Dates.{dated_is_passed}

-- the points from start reach the date
pub reached : (start date : ℤ) → start ≤ℤ date → start +ℤ pos (nat_abs (date -ℤ start)) ≡ date
reached start date le = omega (arith, ints)

-- the table as of a date that isn't before start
pub as_of-after : (d : Deed) (noted : List Happening) (date : ℤ) → d.start ≤ℤ date → table_after d noted (nat_abs (date -ℤ d.start)) ≡ table_as_of d noted date
as_of-after d noted date begun =
    let test : int_lt date d.start ≡ false = grind (arith, ints) in
    sym (ap (λ b. cond b (table_before d date) (table_after d noted (nat_abs (date -ℤ d.start)))) test)

not_less : (a b : ℤ) → int_lt a b ≡ false → b ≤ℤ a
not_less a b test = grind (arith, ints)

-- the code's test says that the date isn't before start
pub begun : (unit : TimeUnit) (start date : ℤ) → IsDated unit start → IsDated unit date → int_lt (to_z w64 (of_z w64 date)) (to_z w64 (of_z w64 start)) ≡ false → start ≤ℤ date
begun unit start date low high test = not_less date start (sym (λ j. int_lt (dated_is_passed unit date high j) (dated_is_passed unit start low j)) ∙ test)

-- the point before one that isn't before a date is passed on as it is
pub before_is_passed : (unit : TimeUnit) (start point : ℤ) → IsDated unit start → start ≤ℤ point → FitsSigned w64 point
    → to_z w64 (of_z w64 (to_z w64 (of_z w64 point) -ℤ pos 1)) ≡ point -ℤ pos 1
before_is_passed Minute start point d le fits = rw (to_z-of_z w64 point fits) (let l = d.not_before in to_z-of_z w64 (point -ℤ pos 1) (search (rules, ints)))
before_is_passed Hour start point d le fits = rw (to_z-of_z w64 point fits) (let l = d.not_before in to_z-of_z w64 (point -ℤ pos 1) (search (rules, ints)))
before_is_passed OneDay start point d le fits = rw (to_z-of_z w64 point fits) (let l = d.not_before in to_z-of_z w64 (point -ℤ pos 1) (search (rules, ints)))
