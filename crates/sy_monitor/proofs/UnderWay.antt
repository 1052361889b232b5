-- A course goes on from wake point to wake point, up to the last point.
use Rattle.std.proofs.Common.{◌≡◌, ℕ, suc, ◌+◌, ◌-◌, ◌≤◌, ℤ, pos, ◌+ℤ◌, ◌-ℤ◌, ◌≤ℤ◌, nat_abs, Some, None, List, ap, subst, arith}
use Rattle.std.proofs.lemmas.Int.{ints}
use Rattle.sy_base.specs.declared.time.TimeUnit.{TimeUnit}
use Rattle.sy_base.specs.Points.{IsDated}
use Rattle.sy_core.specs.declared.deed.Deed.{Deed}
use Rattle.sy_core.specs.declared.happening.Happening.{Happening}
use Rattle.sy_point.specs.Counting.{wakes}
use Rattle.sy_point.specs.Standing.{IsMadeFor, NoneWakes, next_point}
use Rattle.sy_monitor.specs.Machine.Coming.{HasCome, IsNextUpTo, IsUnderWay}
use Rattle.sy_monitor.specs.declared.course.Course.{Course}
use Rattle.sy_point.proofs.WakeCounts.{no_fewer, one_wake, none_between}

module _ (deed : Deed) (narrative : List Happening) (last : ℤ) (count : ℕ) where
  abbrev points : ℕ
  points = suc (nat_abs (last -ℤ deed.start))

  abbrev UnderWay : Course → ℕ → Type 0
  UnderWay course steps = IsUnderWay course deed narrative last count steps

  pub at_start : (course : Course) (steps : ℕ) → deed.start ≤ℤ last → IsMadeFor course.core deed → HasCome course deed narrative 0 → steps ≡ count → UnderWay course steps
  at_start course steps le made come same = record {
    made = made;
    passed = 0;
    come = come;
    within = omega (arith, ints);
    taken = omega (arith, same);
  }

  module _ (course : Course) (steps : ℕ) (way : UnderWay course steps) where
    pub begun : deed.start ≤ℤ next_point course.core
    begun = let at = way.come.stands.at_point in omega (arith, ints)

    -- a wake point that is next up to the last one
    module _ (point : ℤ) (next : IsNextUpTo deed narrative way.passed last (Some point)) where
      abbrev m : ℕ
      m = next.0.0

      at : point ≡ deed.start +ℤ pos (way.passed + m)
      at = next.0.1

      pub not_back : next_point course.core ≤ℤ point
      not_back = let now = way.come.stands.at_point in let is = at in omega (arith, ints)

      pub is_dated : (unit : TimeUnit) → IsDated unit deed.start → IsDated unit last → IsDated unit point
      is_dated unit low high = record {
        not_before = let h = low.not_before in let is = at in omega (arith, ints);
        not_after = let h = high.not_after in let le = next.1 in omega (arith, ints);
      }

      taken_more : (new : ℕ) → new ≡ steps + 1 → new ≡ count + wakes deed narrative (suc (way.passed + m))
      taken_more new is =
          let one = one_wake deed narrative (way.passed + m) next.0.2 in
          let same = none_between deed narrative way.passed m next.0.3 in
          let so_far = way.taken in
          omega (arith, one, same, so_far, is)

      pub goes_on : (skipped after : Course) (new : ℕ)
          → ((n m : ℕ) → HasCome course deed narrative n → point ≡ deed.start +ℤ pos (n + m) → NoneWakes deed narrative n m → HasCome skipped deed narrative (n + m))
          → ((n : ℕ) → HasCome skipped deed narrative n → HasCome after deed narrative (suc n))
          → IsMadeFor after.core deed → new ≡ steps + 1 → UnderWay after new
      goes_on skipped after new skip step made is = record {
        made = made;
        passed = suc (way.passed + m);
        come = step (way.passed + m) (skip way.passed m way.come at next.0.3);
        within = let le = next.1 in let is = at in omega (arith, ints);
        taken = taken_more new is;
      }

      -- the steps stay within the wake points up to the last one
      pub taken_within : (new : ℕ) → new ≡ steps + 1 → new ≤ count + wakes deed narrative points
      taken_within new is =
          let le = next.1 in
          let where_it_is = at in
          let within : suc (way.passed + m) ≤ points = omega (arith, ints) in
          let fewer = no_fewer deed narrative (suc (way.passed + m)) points within in
          let taken = taken_more new is in
          omega (arith, fewer, taken)

      -- less is left
      pub nearer : (after : ℤ) → after ≡ point +ℤ pos 1 → suc (nat_abs ((last +ℤ pos 1) -ℤ after)) ≤ nat_abs ((last +ℤ pos 1) -ℤ next_point course.core)
      nearer after is = let le = next.1 in let back = not_back in omega (arith, ints)

    -- no wake point is left up to the last one
    module _ (begins : deed.start ≤ℤ last) (none : IsNextUpTo deed narrative way.passed last None) where
      abbrev left : ℕ
      left = points - way.passed

      all : way.passed + left ≡ points
      all = let within = way.within in omega (arith, ints)

      none_left : NoneWakes deed narrative way.passed left
      none_left k lt = none k (let within = way.within in omega (arith, ints))

      pub not_past : next_point course.core ≤ℤ (last +ℤ pos 1)
      not_past = let now = way.come.stands.at_point in let within = way.within in omega (arith, ints)

      pub arrives : (after : Course)
          → ((n m : ℕ) → HasCome course deed narrative n → (last +ℤ pos 1) ≡ deed.start +ℤ pos (n + m) → NoneWakes deed narrative n m → HasCome after deed narrative (n + m))
          → HasCome after deed narrative points
      arrives after skip =
          let is = all in
          let at : (last +ℤ pos 1) ≡ deed.start +ℤ pos (way.passed + left) = omega (arith, ints) in
          subst (HasCome after deed narrative) all (skip way.passed left way.come at none_left)

      pub all_taken : steps ≤ count + wakes deed narrative points
      all_taken =
          let same = none_between deed narrative way.passed left none_left in
          let is = ap (wakes deed narrative) all in
          let so_far = way.taken in
          omega (arith, same, is, so_far)
