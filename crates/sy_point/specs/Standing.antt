-- When a core was made for a deed, and what it stands for.
use Rattle.std.specs.Prelude.{◌≡◌, ℕ, zero, suc, ◌+◌, ◌<◌, ◌≤◌, ℤ, pos, ◌+ℤ◌, ◌≤ℤ◌, Bool, true, false, not, ◌&&◌, List, map, length, count_by, Option, Some, None, int_le}
use Rattle.std.specs.Ordering.{int_eq}
use Rattle.std.specs.Option.{is_some}
use Rattle.std.specs.List.{list_any}
use Rattle.sy_core.specs.declared.kind.Target.{Target}
use Rattle.sy_words.specs.declared.kind.Kind.{Kind}
use Rattle.sy_core.specs.declared.deed.Deed.{Deed}
use Rattle.sy_core.specs.declared.happening.Happening.{Happening}
use Rattle.sy_core.specs.Moments.{date_value}
use Rattle.sy_core.specs.Chronicle.{chronicle}
use Rattle.sy_core.specs.Wakes.{dates_of_deed, falls_on, is_wake_after}
use Rattle.sy_quiet.specs.KnownWakes.{is_eventful, is_told}
use Rattle.sy_present.specs.Standing.{last_point, has_fired, IsMadeFor as PresentMade, StandsFor as PresentStands}
use Rattle.sy_point.specs.declared.live.Core.{Core}

-- the point that it evaluates next
abbrev pub next_point : Core → ℤ
next_point core = core.point

-- the n-th point after start is a wake point whatever the narrative has from there on, and whatever its dates are
abbrev pub is_fresh : Deed → List Happening → ℕ → Bool
is_fresh deed narrative zero = true
is_fresh deed narrative (suc n) = is_eventful deed narrative n

-- the dates that are known by the moments before the n-th point after start, and those of them that are still to come
pub record KnowsDates (core : Core) (deed : Deed) (narrative : List Happening) (n : ℕ) : Type 0 where
  pub known : core.queued.items ≡ map (λ term. is_some (date_value deed.unit term (chronicle deed narrative n))) (dates_of_deed deed)
  pub waiting : (value : ℤ) → list_any (λ p. int_eq value p) core.queue.points
      ≡ (int_le core.point value && list_any (falls_on deed.unit value (chronicle deed narrative n)) (dates_of_deed deed))

-- it keeps what the narrative makes of the deed up to the start of the n-th point after start
pub record StandsFor (core : Core) (deed : Deed) (narrative : List Happening) (n : ℕ) : Type 0 where
  pub at_point : core.point ≡ deed.start +ℤ pos n
  pub present : PresentStands core.present deed narrative n
  pub fresh : core.fresh ≡ is_fresh deed narrative n
  pub dates : KnowsDates core deed narrative n

-- the core was made for the deed
pub record IsMadeFor (core : Core) (deed : Deed) : Type 0 where
  pub present : PresentMade core.present deed
  pub terms : length core.queued.items ≡ length (dates_of_deed deed)
  pub room : core.queue.room ≡ length (dates_of_deed deed)
  -- each term that has no value yet may still be put
  pub spare : count_by (λ known. not known) core.queued.items ≤ core.queue.spare
  pub behind : last_point core.present ≤ℤ core.point

-- an internal event of a target happened at the point that was evaluated last
abbrev pub has_happened : Core → Kind → Target → Bool
has_happened core kind target = has_fired core.present kind target

-- the narrative has nothing from the n-th point after start on
abbrev pub HasNoneFrom : Deed → List Happening → ℕ → Type 0
HasNoneFrom deed narrative n = (k : ℕ) → is_told deed narrative (n + k) ≡ false

-- no wake point is among the m points from the n-th on
abbrev pub NoneWakes : Deed → List Happening → ℕ → ℕ → Type 0
NoneWakes deed narrative n m = (k : ℕ) → k < m → is_wake_after deed narrative (n + k) ≡ false

-- the first wake point from the n-th point after start on, if there is one
abbrev pub IsNextWake : Deed → List Happening → ℕ → Option ℤ → Type 0
IsNextWake deed narrative n None = (k : ℕ) → is_wake_after deed narrative (n + k) ≡ false
IsNextWake deed narrative n (Some point) =
    (m : ℕ) × (point ≡ deed.start +ℤ pos (n + m)) × (is_wake_after deed narrative (n + m) ≡ true) × NoneWakes deed narrative n m

-- a point that is told, if one is, isn't before this one
abbrev pub IsNotBefore : ℤ → Option ℤ → Type 0
IsNotBefore point None = Unit {0}
IsNotBefore point (Some other) = point ≤ℤ other
