-- The next wake point from the one that is evaluated next on, by what a core knows.
use Rattle.std.proofs.Common.{◌≡◌, ℕ, zero, suc, ◌+◌, ◌<◌, ℤ, pos, ◌+ℤ◌, ◌-ℤ◌, ◌<ℤ◌, ◌≤ℤ◌, nat_abs, int_le, Bool, true, false, ◌&&◌, ◌||◌, List, Option, Some, None, slice_get, length, refl, sym, ◌∙◌, ap, subst, arith}
use Rattle.std.specs.List.{list_any}
use Rattle.std.specs.Ordering.{int_eq}
use Rattle.std.proofs.lemmas.Int.{ints}
use Rattle.sy_core.specs.declared.deed.Deed.{Deed}
use Rattle.sy_core.specs.declared.happening.Happening.{Happening}
use Rattle.sy_core.specs.Chronicle.{chronicle}
use Rattle.sy_core.specs.Orders.{IsAcyclic}
use Rattle.sy_core.specs.Prerequisites.{nodes, numbered_needs}
use Rattle.sy_core.specs.Wakes.{dates_of_deed, falls_on, is_wake_after}
use Rattle.sy_quiet.specs.KnownWakes.{is_told, is_due, is_eventful, NothingComes}
use Rattle.sy_quiet.proofs.WakeLaw.{wake_is_known}
use Rattle.sy_quiet.proofs.NextWake.{none_wakes, next_wake}
use Rattle.sy_queue.specs.Deadlines.{IsAscending}
use Rattle.sy_queue.proofs.Members.{first_is_least, none_first}
use Rattle.sy_point.specs.Standing.{NoneWakes, IsNextWake, IsNotBefore, HasNoneFrom, is_fresh}
use Rattle.sy_point.proofs.Skipping.{number_of, le_later, point_on, falls_stay, due_wakes}

both_true : (a b : Bool) → true ≡ (a && b) → (a ≡ true) × (b ≡ true)
both_true true true e = (refl, refl)
both_true true false e = cc
both_true false b e = cc

or_last : (a b : Bool) → b ≡ true → (a || b) ≡ true
or_last true b e = refl
or_last false b e = e

neither : (a b : Bool) → a ≡ false → b ≡ false → (a || b) ≡ false
neither a b e f = λ j. e j || f j

module _ (deed : Deed) (acyclic : IsAcyclic (numbered_needs deed) (length (nodes deed))) (narrative : List Happening) where
  abbrev here : ℕ → ℤ
  here k = deed.start +ℤ pos k

  -- a point that is fresh is a wake point
  pub fresh_wakes : (n : ℕ) → is_fresh deed narrative n ≡ true → is_wake_after deed narrative n ≡ true
  fresh_wakes zero fresh = refl
  fresh_wakes (suc n) fresh =
      wake_is_known deed acyclic narrative (suc n)
      ∙ or_last (is_told deed narrative (suc n) || is_due deed narrative (suc n) (suc n)) (is_eventful deed narrative n) fresh

  pub fresh_is_next : (n : ℕ) (point : ℤ) → point ≡ here n → is_fresh deed narrative n ≡ true → IsNextWake deed narrative n (Some point)
  fresh_is_next n point at fresh =
      let same : n + 0 ≡ n = omega arith in
      (0, at ∙ sym (ap here same), ap (is_wake_after deed narrative) same ∙ fresh_wakes n fresh, λ k lt. absurd (omega (arith, lt)))

  pub fresh_at : (n m : ℕ) (point : ℤ) → point ≡ here n → is_fresh deed narrative n ≡ true → Some point ≡ Some (here (n + m)) → is_wake_after deed narrative (n + m) ≡ true
  fresh_at n m point at fresh is =
      let there : point ≡ here (n + m) = cc in
      let same : n + m ≡ n = omega (arith, ints, at, there) in
      ap (is_wake_after deed narrative) same ∙ fresh_wakes n fresh

  -- these points are those that known dates fall on, from the n-th point on
  module _ (n : ℕ) (points : List ℤ) (waiting : (value : ℤ) → list_any (λ p. int_eq value p) points ≡ (int_le (here n) value && list_any (falls_on deed.unit value (chronicle deed narrative n)) (dates_of_deed deed))) where
    due_is : (k : ℕ) → is_due deed narrative n (n + k) ≡ list_any (λ p. int_eq (here (n + k)) p) points
    due_is k =
        let from : int_le (here n) (here (n + k)) ≡ true = subst (λ p. int_le (here n) p ≡ true) (point_on deed.start n k) (le_later (here n) k) in
        sym (waiting (here (n + k)) ∙ ap (λ b. b && is_due deed narrative n (n + k)) from)

    -- the first of the points, counted from the n-th
    least_at : (least : ℤ) → list_any (λ p. int_eq least p) points ≡ true → (k : ℕ) × (least ≡ here (n + k)) × (is_due deed narrative n (n + k) ≡ true)
    least_at least among =
        let both = both_true (int_le (here n) least) (list_any (falls_on deed.unit least (chronicle deed narrative n)) (dates_of_deed deed)) (sym among ∙ waiting least) in
        let k = nat_abs (least -ℤ here n) in
        let at : here (n + k) ≡ least = sym (point_on deed.start n k) ∙ number_of (here n) least both.0 in
        (k, sym at, ap (λ p. list_any (falls_on deed.unit p (chronicle deed narrative n)) (dates_of_deed deed)) at ∙ both.1)

    none_due : (m : ℕ) → IsAscending points → IsNotBefore (here (n + m)) (slice_get points 0) → (k : ℕ) → k < m → is_due deed narrative n (n + k) ≡ false
    none_due m up not_before k lt = due_is k ∙ by_first (slice_get points 0) refl not_before
      where
        by_first : (first : Option ℤ) → slice_get points 0 ≡ first → IsNotBefore (here (n + m)) first → list_any (λ p. int_eq (here (n + k)) p) points ≡ false
        by_first None is later = ap (λ ps. list_any (λ p. int_eq (here (n + k)) p) ps) (none_first points is)
        by_first (Some least) is later =
            (first_is_least points least up is).1 (here (n + k)) (let e : here (n + k) <ℤ here (n + m) = omega (arith, ints, lt) in omega (arith, ints, e, later))

    -- none of them is before the present point
    pub first_is_later : IsAscending points → IsNotBefore (here n) (slice_get points 0)
    first_is_later up = by_first (slice_get points 0) refl
      where
        by_first : (first : Option ℤ) → slice_get points 0 ≡ first → IsNotBefore (here n) first
        by_first None is = tt
        by_first (Some least) is =
            let there = least_at least (first_is_least points least up is).0 in
            let at = there.1 in
            omega (arith, ints, at)

    pub waiting_at : (m : ℕ) → IsAscending points → NoneWakes deed narrative n m → slice_get points 0 ≡ Some (here (n + m)) → is_wake_after deed narrative (n + m) ≡ true
    waiting_at m up none is =
        let due = due_is m ∙ (first_is_least points (here (n + m)) up is).0 in
        due_wakes deed acyclic narrative (n + m) (falls_stay deed acyclic narrative n m none (here (n + m)) ∙ due)

  module _ (n : ℕ) (points : List ℤ) (waiting : (value : ℤ) → list_any (λ p. int_eq value p) points ≡ (int_le (here (suc n)) value && list_any (falls_on deed.unit value (chronicle deed narrative (suc n))) (dates_of_deed deed))) (up : IsAscending points) (uneventful : is_eventful deed narrative n ≡ false) where
    comes : (m : ℕ) → ((k : ℕ) → k < m → is_told deed narrative (suc n + k) ≡ false) → IsNotBefore (here (suc n + m)) (slice_get points 0) → NothingComes deed narrative n m
    comes m untold later k lt = neither _ _ (untold k lt) (none_due (suc n) points waiting m up later k lt)

    none_first_wakes : (m : ℕ) → ((k : ℕ) → k < m → is_told deed narrative (suc n + k) ≡ false) → IsNotBefore (here (suc n + m)) (slice_get points 0) → NoneWakes deed narrative (suc n) m
    none_first_wakes m untold later = none_wakes deed acyclic narrative n m uneventful (comes m untold later)

    first_wakes : HasNoneFrom deed narrative (suc n) → (first : Option ℤ) → slice_get points 0 ≡ first → IsNextWake deed narrative (suc n) first
    first_wakes untold None is = λ k. none_first_wakes (suc k) (λ i lt. untold i) (subst (IsNotBefore (here (suc n + suc k))) (sym is) tt) k (omega arith)
    first_wakes untold (Some least) is =
        let among = (first_is_least points least up is).0 in
        let there = least_at (suc n) points waiting least among in
        let k = there.0 in
        let at = there.1 in
        let later : IsNotBefore (here (suc n + k)) (slice_get points 0) = subst (IsNotBefore (here (suc n + k))) (sym is) (let e : here (suc n + k) ≤ℤ least = omega (arith, ints, at) in e) in (
          k,
          at,
          next_wake deed acyclic narrative n k uneventful (comes k (λ i lt. untold i) later) ∙ or_last (is_told deed narrative (suc n + k)) (is_due deed narrative (suc n) (suc n + k)) there.2,
          none_first_wakes k (λ i lt. untold i) later,
        )

  -- the first of the points that known dates fall on is the next wake point, where the present one isn't fresh
  pub first_is_next : (n : ℕ) (points : List ℤ) → ((value : ℤ) → list_any (λ p. int_eq value p) points ≡ (int_le (here n) value && list_any (falls_on deed.unit value (chronicle deed narrative n)) (dates_of_deed deed))) → IsAscending points → is_fresh deed narrative n ≡ false → HasNoneFrom deed narrative n → IsNextWake deed narrative n (slice_get points 0)
  first_is_next zero points waiting up fresh untold = absurd cc
  first_is_next (suc n) points waiting up fresh untold = first_wakes n points waiting up fresh untold (slice_get points 0) refl

  -- up to the first of them no point is a wake point, where the narrative has nothing
  pub none_before_first : (n m : ℕ) (points : List ℤ) → ((value : ℤ) → list_any (λ p. int_eq value p) points ≡ (int_le (here n) value && list_any (falls_on deed.unit value (chronicle deed narrative n)) (dates_of_deed deed))) → IsAscending points → is_fresh deed narrative n ≡ false → ((k : ℕ) → k < m → is_told deed narrative (n + k) ≡ false) → IsNotBefore (here (n + m)) (slice_get points 0) → NoneWakes deed narrative n m
  none_before_first zero m points waiting up fresh untold later = absurd cc
  none_before_first (suc n) m points waiting up fresh untold later = none_first_wakes n points waiting up fresh m untold later
