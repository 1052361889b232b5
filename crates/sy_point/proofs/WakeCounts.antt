-- How many of some points are wake points.
use Rattle.std.proofs.Common.{◌≡◌, ℕ, zero, suc, ◌+◌, ◌≤◌, ◌-◌, Bool, true, false, if◌then◌else◌, List, sym, ◌∙◌, ap, subst, arith}
use Rattle.sy_core.specs.declared.deed.Deed.{Deed}
use Rattle.sy_core.specs.declared.happening.Happening.{Happening}
use Rattle.sy_core.specs.Wakes.{is_wake_after}
use Rattle.sy_point.specs.Standing.{NoneWakes}
use Rattle.sy_point.specs.Counting.{wakes}

module _ (deed : Deed) (narrative : List Happening) where
  abbrev count : ℕ → ℕ
  count = wakes deed narrative

  one_more : (b : Bool) (c : ℕ) → c ≤ (if b then suc c else c)
  one_more true c = omega arith
  one_more false c = omega arith

  more : (n m : ℕ) → count n ≤ count (n + m)
  more n zero = let e : n + 0 ≡ n = omega arith in subst (λ k. count n ≤ count k) (sym e) (omega arith)
  more n (suc m) =
      let e : n + suc m ≡ suc (n + m) = omega arith in
      let one = one_more (is_wake_after deed narrative (n + m)) (count (n + m)) in
      let all = more n m in
      subst (λ k. count n ≤ count k) (sym e) (omega (arith, one, all))

  -- of more points no fewer are
  pub no_fewer : (n k : ℕ) → n ≤ k → wakes deed narrative n ≤ wakes deed narrative k
  no_fewer n k le = let e : n + (k - n) ≡ k = omega arith in subst (λ k. count n ≤ count k) e (more n (k - n))

  pub one_wake : (n : ℕ) → is_wake_after deed narrative n ≡ true → wakes deed narrative (suc n) ≡ suc (wakes deed narrative n)
  one_wake n wake = ap (λ b. if b then suc (count n) else count n) wake

  pub none_between : (n m : ℕ) → NoneWakes deed narrative n m → wakes deed narrative (n + m) ≡ wakes deed narrative n
  none_between n zero none = let e : n + 0 ≡ n = omega arith in ap count e
  none_between n (suc m) none =
      let e : n + suc m ≡ suc (n + m) = omega arith in
      let no = none m (omega arith) in
      ap count e ∙ (ap (λ b. if b then suc (count (n + m)) else count (n + m)) no ∙ none_between n m (λ k lt. none k (omega (arith, lt))))
