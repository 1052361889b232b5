-- What the evaluation of some points comes to.
use Rattle.std.specs.Prelude.{◌≡◌, ℕ, ◌+◌, ℤ, pos, ◌+ℤ◌, ◌≤ℤ◌, int_lt, false, Option, Some, None, List, slice_get, if◌then◌else◌}
use Rattle.sy_words.specs.declared.kind.Kind.{Kind}
use Rattle.sy_core.specs.declared.kind.Target.TheVariants as T
use Rattle.sy_core.specs.declared.event.Ev.TheVariants.{Inner}
use Rattle.sy_core.specs.declared.position.Position.{Position}
use Rattle.sy_core.specs.declared.deed.Deed.{Deed}
use Rattle.sy_core.specs.declared.happening.Happening.{Happening}
use Rattle.sy_core.specs.Moments.{Moment}
use Rattle.sy_core.specs.Chronicle.{chronicle}
use Rattle.sy_core.specs.Tables.{marks, is_violated, is_void}
use Rattle.sy_core.specs.Wakes.{is_wake_after}
use Rattle.sy_point.specs.Standing.{StandsFor, IsMadeFor, IsNextWake, has_happened}
use Rattle.sy_point.specs.Counting.{wakes}
use Rattle.sy_point.specs.declared.live.Core.{Core}
use Rattle.sy_monitor.specs.declared.course.Course.{Course}

-- it has come to the start of the n-th point after start, with the marks of the points before it
pub record HasCome (course : Course) (deed : Deed) (narrative : List Happening) (n : ℕ) : Type 0 where
  pub stands : StandsFor course.core deed narrative n
  pub violations : course.violations ≡ marks is_violated deed.positions (chronicle deed narrative n)
  pub voids : course.voids ≡ marks is_void deed.positions (chronicle deed narrative n)

-- of each position that is there the core tells what happened to it at the moment
abbrev pub Tells : Core → Deed → Moment → Type 0
Tells core deed m =
    (kind : Kind) (i : ℕ) (p : Position) → slice_get deed.positions i ≡ Some p
    → has_happened core kind (T.Position i) ≡ m.seen (Inner kind (T.Position i))

-- the earlier of two points, each of which may be missing
abbrev pub earlier : Option ℤ → Option ℤ → Option ℤ
earlier None other = other
earlier (Some one) None = Some one
earlier (Some one) (Some other) = if int_lt other one then Some other else Some one

-- the first wake point from the n-th point after start to the last one, if there is one
abbrev pub IsNextUpTo : Deed → List Happening → ℕ → ℤ → Option ℤ → Type 0
IsNextUpTo deed narrative n last None = (k : ℕ) → (deed.start +ℤ pos (n + k)) ≤ℤ last → is_wake_after deed narrative (n + k) ≡ false
IsNextUpTo deed narrative n last (Some point) = IsNextWake deed narrative n (Some point) × (point ≤ℤ last)

-- it is on the way to the last point, and since a count it took a step for each wake point that it came past
pub record IsUnderWay (course : Course) (deed : Deed) (narrative : List Happening) (last : ℤ) (count steps : ℕ) : Type 0 where
  pub made : IsMadeFor course.core deed
  pub passed : ℕ
  pub come : HasCome course deed narrative passed
  pub within : (deed.start +ℤ pos passed) ≤ℤ (last +ℤ pos 1)
  pub taken : steps ≡ count + wakes deed narrative passed
