-- The next wake point is the earlier of the next date that is known and the next happening.
use Rattle.std.proofs.Common.{◌≡◌, ◌⊎◌, ℕ, zero, suc, ◌+◌, ◌<◌, ℤ, pos, ◌+ℤ◌, ◌-ℤ◌, ◌≤ℤ◌, nat_abs, int_lt, Bool, true, false, cond, ◌||◌, Option, Some, None, List, inl, inr, refl, ◌∙◌, ap, subst, arith}
use Rattle.std.proofs.lemmas.Int.{ints}
use Rattle.std.proofs.lemmas.Bool.Decides.{Decides-int_eq}
use Rattle.std.specs.Ordering.{int_eq}
use Rattle.std.specs.List.{Contains, list_any}
use Rattle.sy_core.specs.declared.deed.Deed.{Deed}
use Rattle.sy_core.specs.declared.happening.Happening.{Happening}
use Rattle.sy_core.specs.Chronicle.{chronicle, moment_at}
use Rattle.sy_core.specs.Wakes.{dates_of_deed, falls_on, has_internal_event, is_wake_after}
use Rattle.sy_core.proofs.Members.{among, contained}
use Rattle.sy_quiet.specs.KnownWakes.{is_told}
use Rattle.sy_quiet.proofs.Members.{any_in, some_in}
use Rattle.sy_story.specs.Narratives.{IsNextAfter}
use Rattle.sy_point.specs.Standing.{NoneWakes, IsNextWake, IsNotBefore}
use Rattle.sy_monitor.specs.Machine.Coming.{earlier}

-- nothing is told at a point that no happening has
untold : (narrative : List Happening) (point : ℤ) → ((h : Happening) → Contains narrative h → h.point ≡ point → ⊥) → list_any (λ h. int_eq h.point point) narrative ≡ false
untold narrative point none = by (list_any (λ h. int_eq h.point point) narrative) refl
  where
    by : (b : Bool) → list_any (λ h. int_eq h.point point) narrative ≡ b → b ≡ false
    by true e =
        let s = some_in (λ (h : Happening). int_eq h.point point) narrative e in
        absurd (none s.0 (contained narrative s.0 s.1) ((Decides-int_eq s.0.point point).0 s.2))
    by false e = refl

-- a told point is a wake point
told_wakes : (deed : Deed) (narrative : List Happening) (k : ℕ) → is_told deed narrative k ≡ true → is_wake_after deed narrative k ≡ true
told_wakes deed narrative zero t = refl
told_wakes deed narrative (suc k) t =
    ap (λ b. (b || list_any (falls_on deed.unit (deed.start +ℤ pos (suc k)) (chronicle deed narrative (suc (suc k)))) (dates_of_deed deed)) || has_internal_event deed (moment_at deed narrative k)) t

module _ (deed : Deed) (narrative : List Happening) (n : ℕ) (before : ℤ) (at_now : before ≡ (deed.start +ℤ pos n) -ℤ pos 1) where
  abbrev here : ℕ → ℤ
  here k = deed.start +ℤ pos k

  -- no wake point comes before the next happening and the next date that is known
  abbrev Quiet : Option ℤ → Type 0
  Quiet known = (m : ℕ) → ((k : ℕ) → k < m → is_told deed narrative (n + k) ≡ false) → IsNotBefore (here (n + m)) known → NoneWakes deed narrative n m

  -- the next date that is known is a wake point, where none comes before it
  abbrev Waking : Option ℤ → Type 0
  Waking known = (m : ℕ) → NoneWakes deed narrative n m → known ≡ Some (here (n + m)) → is_wake_after deed narrative (n + m) ≡ true

  -- none of the happenings from now on comes before a point
  abbrev TellsFrom : ℤ → Type 0
  TellsFrom point = (h : Happening) → Contains narrative h → (h.point ≤ℤ before) ⊎ (point ≤ℤ h.point)

  far : (point : ℤ) (k m : ℕ) → point ≡ here (n + m) → k < m → (q : ℤ) → q ≡ here (n + k) → (q ≤ℤ before) ⊎ (point ≤ℤ q) → ⊥
  far point k m at lt q is (inl le) = omega (arith, ints)
  far point k m at lt q is (inr le) = omega (arith, ints)

  -- a point that no happening and no known date comes before is the next wake point, if it is one
  first_at : (known : Option ℤ) → Quiet known → (point : ℤ) → here n ≤ℤ point → TellsFrom point → IsNotBefore point known
      → ((m : ℕ) → point ≡ here (n + m) → NoneWakes deed narrative n m → is_wake_after deed narrative (n + m) ≡ true)
      → IsNextWake deed narrative n (Some point)
  first_at known quiet point le from not_before wakes =
      let m : ℕ = nat_abs (point -ℤ here n) in
      let at : point ≡ here (n + m) = omega (arith, ints) in
      let none = quiet m (λ k lt. untold narrative (here (n + k)) (λ h c is. far point k m at lt h.point is (from h c))) (subst (λ p. IsNotBefore p known) at not_before) in
      (m, at, wakes m at none, none)

  at_told : (point : ℤ) → (h : Happening) × Contains narrative h × (h.point ≡ point) → (m : ℕ) → point ≡ here (n + m) → is_wake_after deed narrative (n + m) ≡ true
  at_told point has m at =
      told_wakes deed narrative (n + m)
      (any_in (λ (h : Happening). int_eq h.point (here (n + m))) narrative has.0 (among narrative has.0 has.1) ((Decides-int_eq has.0.point (here (n + m))).1 (has.2 ∙ at)))

  pub next_of_both : (known told : Option ℤ) → IsNotBefore (here n) known → Quiet known → Waking known → IsNextAfter narrative before told → IsNextWake deed narrative n (earlier known told)
  next_of_both None None later quiet waking next =
      λ k. quiet (suc k) (λ j lt. untold narrative (here (n + j)) (λ h c is. let le = next h c in omega (arith, ints))) tt k (omega arith)
  next_of_both None (Some b) later quiet waking next =
      first_at None quiet b (let lt = next.0 in omega (arith, ints)) next.2 tt (λ m at none. at_told b next.1 m at)
  next_of_both (Some a) None later quiet waking next =
      first_at (Some a) quiet a later (λ h c. inl (next h c)) (omega (arith, ints)) (λ m at none. waking m none (ap Some at))
  next_of_both (Some a) (Some b) later quiet waking next = by (int_lt b a) refl
    where
      earlier_known : (a ≤ℤ b) → (q : ℤ) → (q ≤ℤ before) ⊎ (b ≤ℤ q) → (q ≤ℤ before) ⊎ (a ≤ℤ q)
      earlier_known le q (inl l) = inl l
      earlier_known le q (inr l) = inr (omega (arith, ints))

      by : (c : Bool) → int_lt b a ≡ c → IsNextWake deed narrative n (cond c (Some b) (Some a))
      by true e =
          first_at (Some a) quiet b (let lt = next.0 in omega (arith, ints)) next.2 (grind (arith, ints)) (λ m at none. at_told b next.1 m at)
      by false e =
          let le : a ≤ℤ b = grind (arith, ints) in
          first_at (Some a) quiet a later (λ h c. earlier_known le h.point (next.2 h c)) (omega (arith, ints)) (λ m at none. waking m none (ap Some at))
