-- How far a date and the durations added to it reach.
use Rattle.std.proofs.Common.{◌≡◌, ℕ, ◌+◌, ◌*◌, ◌/◌, ◌^◌, ◌<◌, ◌≤◌, ℤ, pos, ◌+ℤ◌, ◌≤ℤ◌, Bool, true, false, not, ◌&&◌, nat_le, refl, arith, rules, w64, to_z, of_z}
use Rattle.std.proofs.lemmas.Int.{ints, to_z-of_z}
use Rattle.std.proofs.lemmas.Bool.Decides.{nat_tests}
use Rattle.sy_base.specs.declared.time.TimeUnit.{TimeUnit}
use Rattle.sy_base.specs.declared.time.TimeUnit.TheVariants.{Minute, Hour, Day as OneDay}
use Rattle.sy_base.specs.declared.time.Measure.{Measure}
use Rattle.sy_base.specs.declared.time.Measure.TheVariants.{Minutes, Hours, Days, Weeks}
use Rattle.sy_base.specs.declared.time.Duration.{Duration}
use Rattle.sy_base.specs.Measures.{minutes_of_measure, greatest_count, is_finer, added}
use Rattle.sy_base.specs.Points.{IsDated, IsAddable, least_point, greatest_point, minutes_of_unit}
use Rattle.sy_core.specs.Soundness.{is_duration_of}

-- how many of a unit the days of 400 years have
abbrev pub span : TimeUnit → ℕ
span Minute = 210379680
span Hour = 3506328
span OneDay = 146097

-- the point is a date, or comes at most so many durations after the last date
pub record IsReached (unit : TimeUnit) (i : ℕ) (point : ℤ) : Type 0 where
  pub low : least_point unit ≤ℤ point
  pub high : point ≤ℤ (greatest_point unit +ℤ pos (i * span unit))

pub dated_is_reached : (unit : TimeUnit) (point : ℤ) → IsDated unit point → IsReached unit 0 point
dated_is_reached Minute point d = record { low = d.not_before; high = let h = d.not_after in omega (arith, ints) }
dated_is_reached Hour point d = record { low = d.not_before; high = let h = d.not_after in omega (arith, ints) }
dated_is_reached OneDay point d = record { low = d.not_before; high = let h = d.not_after in omega (arith, ints) }

pub reached_is_addable : (unit : TimeUnit) (i : ℕ) (point : ℤ) → i < 8 → IsReached unit i point → IsAddable unit point
reached_is_addable Minute i point lt r = record { not_before = r.low; not_after = let h = r.high in omega (arith, ints) }
reached_is_addable Hour i point lt r = record { not_before = r.low; not_after = let h = r.high in omega (arith, ints) }
reached_is_addable OneDay i point lt r = record { not_before = r.low; not_after = let h = r.high in omega (arith, ints) }

le_of : (a b : ℕ) → nat_le a b ≡ true → a ≤ b
le_of a b h = grind (arith, nat_tests)

-- what a sound duration is
pub measured : (unit : TimeUnit) (d : Duration) → is_duration_of unit d ≡ true → (is_finer d.measure unit ≡ false) × (d.count ≤ greatest_count d.measure)
measured unit d h = not_finer (is_finer d.measure unit) (nat_le d.count (greatest_count d.measure)) h (le_of d.count (greatest_count d.measure))
  where
    not_finer : {P : Type 0} (finer within : Bool) → (not finer && within) ≡ true → (within ≡ true → P) → (finer ≡ false) × P
    not_finer true within h p = cc
    not_finer false within h p = (refl, p h)

units_within : (unit : TimeUnit) (measure : Measure) (count : ℕ) → is_finer measure unit ≡ false → count ≤ greatest_count measure → count * (minutes_of_measure measure / minutes_of_unit unit) ≤ span unit
units_within Minute Minutes count f le = omega arith
units_within Minute Hours count f le = omega arith
units_within Minute Days count f le = omega arith
units_within Minute Weeks count f le = omega arith
units_within Hour Minutes count f le = cc
units_within Hour Hours count f le = omega arith
units_within Hour Days count f le = omega arith
units_within Hour Weeks count f le = omega arith
units_within OneDay Minutes count f le = cc
units_within OneDay Hours count f le = cc
units_within OneDay Days count f le = omega arith
units_within OneDay Weeks count f le = omega arith

reached_by : (unit : TimeUnit) (i units : ℕ) (point : ℤ) → units ≤ span unit → IsReached unit i point → IsReached unit (i + 1) (point +ℤ pos units)
reached_by Minute i units point le r = record { low = let h = r.low in omega (arith, ints); high = let h = r.high in omega (arith, ints) }
reached_by Hour i units point le r = record { low = let h = r.low in omega (arith, ints); high = let h = r.high in omega (arith, ints) }
reached_by OneDay i units point le r = record { low = let h = r.low in omega (arith, ints); high = let h = r.high in omega (arith, ints) }

pub added_is_reached : (unit : TimeUnit) (i : ℕ) (point : ℤ) (d : Duration) → is_duration_of unit d ≡ true → IsReached unit i point → IsReached unit (i + 1) (added unit point d)
added_is_reached unit i point d h r =
    let m = measured unit d h in
    reached_by unit i (d.count * (minutes_of_measure d.measure / minutes_of_unit unit)) point (units_within unit d.measure d.count m.0 m.1) r

-- a date is passed on as it is
pub dated_is_passed : (unit : TimeUnit) (point : ℤ) → IsDated unit point → to_z w64 (of_z w64 point) ≡ point
dated_is_passed Minute point d = let l = d.not_before in let h = d.not_after in to_z-of_z w64 point (search (rules, ints))
dated_is_passed Hour point d = let l = d.not_before in let h = d.not_after in to_z-of_z w64 point (search (rules, ints))
dated_is_passed OneDay point d = let l = d.not_before in let h = d.not_after in to_z-of_z w64 point (search (rules, ints))

-- so is a point that durations after a date reach
pub reached_is_passed : (unit : TimeUnit) (i : ℕ) (point : ℤ) → i ≤ 8 → IsReached unit i point → to_z w64 (of_z w64 point) ≡ point
reached_is_passed Minute i point le r = let l = r.low in let h : point ≤ℤ pos (2 ^ 40) = let h = r.high in omega (arith, ints) in to_z-of_z w64 point (search (rules, ints))
reached_is_passed Hour i point le r = let l = r.low in let h : point ≤ℤ pos (2 ^ 40) = let h = r.high in omega (arith, ints) in to_z-of_z w64 point (search (rules, ints))
reached_is_passed OneDay i point le r = let l = r.low in let h : point ≤ℤ pos (2 ^ 40) = let h = r.high in omega (arith, ints) in to_z-of_z w64 point (search (rules, ints))

-- so is the point after a date
pub next_is_passed : (unit : TimeUnit) (point : ℤ) → IsDated unit point → to_z w64 (of_z w64 (to_z w64 (of_z w64 point) +ℤ pos 1)) ≡ point +ℤ pos 1
next_is_passed Minute point d = rw (dated_is_passed Minute point d) (let l = d.not_before in let h = d.not_after in to_z-of_z w64 (point +ℤ pos 1) (search (rules, ints)))
next_is_passed Hour point d = rw (dated_is_passed Hour point d) (let l = d.not_before in let h = d.not_after in to_z-of_z w64 (point +ℤ pos 1) (search (rules, ints)))
next_is_passed OneDay point d = rw (dated_is_passed OneDay point d) (let l = d.not_before in let h = d.not_after in to_z-of_z w64 (point +ℤ pos 1) (search (rules, ints)))
