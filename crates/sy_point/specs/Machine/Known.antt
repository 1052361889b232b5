-- What a core keeps while the dates that have become known are put into its queue.
use Rattle.std.specs.Prelude.{◌≡◌, ℕ, ◌<◌, ◌≤◌, ℤ, Bool, true, false, not, ◌&&◌, ◌||◌, List, [], ◌∷◌, map, length, count_by, Option, Some, slice_get, int_le}
use Rattle.std.specs.Ordering.{int_eq}
use Rattle.std.specs.Option.{is_some}
use Rattle.std.specs.List.{list_any}
use Rattle.sy_core.specs.declared.deed.Deed.{Deed}
use Rattle.sy_core.specs.declared.happening.Happening.{Happening}
use Rattle.sy_core.specs.Moments.{date_value}
use Rattle.sy_core.specs.Chronicle.{chronicle}
use Rattle.sy_core.specs.Wakes.{dates_of_deed, is_point}
use Rattle.sy_point.specs.declared.live.Core.{Core}

-- the values of a deed's date terms by the moments before the n-th point after start
abbrev pub date_values : Deed → List Happening → ℕ → List (Option ℤ)
date_values deed narrative n = map (λ term. date_value deed.unit term (chronicle deed narrative n)) (dates_of_deed deed)

-- some value passes a test whose bit is set
abbrev pub any_known : (Option ℤ → Bool) → List Bool → List (Option ℤ) → Bool
any_known test [] values = false
any_known test (bit ∷ bits) [] = false
any_known test (bit ∷ bits) (value ∷ values) = (bit && test value) || any_known test bits values

-- a bit is set only where the value is there; of the first ones each is set where it is; and the points are those values with a bit
-- that aren't before a point
pub record AreKnown (bits : List Bool) (points : List ℤ) (from : ℤ) (values : List (Option ℤ)) (count : ℕ) : Type 0 where
  pub sound : (i : ℕ) (value : Option ℤ) → slice_get values i ≡ Some value → slice_get bits i ≡ Some true → is_some value ≡ true
  pub first : (i : ℕ) (value : Option ℤ) → i < count → slice_get values i ≡ Some value → is_some value ≡ true → slice_get bits i ≡ Some true
  pub waiting : (point : ℤ) → list_any (λ p. int_eq point p) points ≡ (int_le from point && any_known (is_point point) bits values)

-- the core knows the dates of the first so many terms by these values
abbrev pub KnowsFirst : Core → List (Option ℤ) → ℕ → Type 0
KnowsFirst core values count = AreKnown core.queued.items core.queue.points core.point values count

-- each date that isn't known may still be put
abbrev pub HasSpare : Core → Type 0
HasSpare core = count_by (λ known. not known) core.queued.items ≤ core.queue.spare

-- the dates alone are others
pub record HasSameButDates (old new : Core) : Type 0 where
  pub point : new.point ≡ old.point
  pub present : new.present ≡ old.present
  pub fresh : new.fresh ≡ old.fresh
  pub room : new.queue.room ≡ old.queue.room
  pub terms : length new.queued.items ≡ length old.queued.items
