-- What a core keeps over points of which none is a wake point.
use Rattle.std.proofs.Common.{◌≡◌, ℕ, zero, suc, ◌+◌, ◌<◌, ℤ, pos, ◌+ℤ◌, ◌-ℤ◌, nat_abs, int_le, Bool, true, false, ◌&&◌, ◌||◌, List, map, length, refl, sym, ◌∙◌, ap, subst, arith}
use Rattle.std.proofs.Math.Path.{fun_ext}
use Rattle.std.specs.List.{list_any}
use Rattle.std.specs.Option.{is_some}
use Rattle.std.proofs.lemmas.Int.{ints}
use Rattle.sy_core.specs.declared.event.Ev.TheVariants.{Inner}
use Rattle.sy_core.specs.declared.date_term.DateTerm.{DateTerm}
use Rattle.sy_core.specs.declared.deed.Deed.{Deed}
use Rattle.sy_core.specs.declared.happening.Happening.{Happening}
use Rattle.sy_core.specs.Moments.{date_value}
use Rattle.sy_core.specs.Mentions.{InternalEvent}
use Rattle.sy_core.specs.Conditions.{events_of}
use Rattle.sy_core.specs.Chronicle.{chronicle, moment_at}
use Rattle.sy_core.specs.Orders.{IsAcyclic}
use Rattle.sy_core.specs.Prerequisites.{nodes, numbered_needs}
use Rattle.sy_core.specs.Wakes.{dates_of_deed, is_point, falls_on, is_wake_after}
use Rattle.sy_quiet.specs.Histories.{history_at}
use Rattle.sy_quiet.specs.KnownWakes.{is_told, is_due, is_eventful}
use Rattle.sy_quiet.proofs.WakeLaw.{none_inside, run_at, wake_is_known}
use Rattle.sy_quiet.proofs.NextWake.{none_of_all, date_waits}
use Rattle.sy_present.specs.Standing.{StandsFor as PresentStands}
use Rattle.sy_point.specs.Standing.{StandsFor, NoneWakes, is_fresh}
use Rattle.sy_point.specs.declared.live.Core.{Core}

-- the number of a point that isn't before another, counted from there
pub number_of : (point value : ℤ) → int_le point value ≡ true → point +ℤ pos (nat_abs (value -ℤ point)) ≡ value
number_of point value le = omega (arith, ints, le)

pub le_later : (point : ℤ) (k : ℕ) → int_le point (point +ℤ pos k) ≡ true
le_later point k = grind (arith, ints)

pub point_on : (start : ℤ) (n k : ℕ) → (start +ℤ pos n) +ℤ pos k ≡ start +ℤ pos (n + k)
point_on start n k = omega (arith, ints)

module _ (deed : Deed) (acyclic : IsAcyclic (numbered_needs deed) (length (nodes deed))) (narrative : List Happening) where
  -- a point on which a date falls is a wake point
  pub due_wakes : (n : ℕ) → is_due deed narrative n n ≡ true → is_wake_after deed narrative n ≡ true
  due_wakes zero due = refl
  due_wakes (suc n) due =
      wake_is_known deed acyclic narrative (suc n)
      ∙ ((λ j. (is_told deed narrative (suc n) || due j) || is_eventful deed narrative n) ∙ or_true (is_told deed narrative (suc n)) (is_eventful deed narrative n))
    where
      or_true : (a b : Bool) → ((a || true) || b) ≡ true
      or_true true b = refl
      or_true false b = refl

  module _ (n m : ℕ) (none : NoneWakes deed narrative n m) where
    -- each date keeps its value
    pub dates_stay : (d : DateTerm) → date_value deed.unit d (chronicle deed narrative (n + m)) ≡ date_value deed.unit d (chronicle deed narrative n)
    dates_stay d = ap (λ h. date_value deed.unit d h.before) (run_at deed acyclic narrative n m none) ∙ date_waits (history_at deed narrative n) (λ e. refl) deed.unit d m

    pub falls_stay : (value : ℤ) → list_any (falls_on deed.unit value (chronicle deed narrative (n + m))) (dates_of_deed deed) ≡ list_any (falls_on deed.unit value (chronicle deed narrative n)) (dates_of_deed deed)
    falls_stay value = ap (λ test. list_any test (dates_of_deed deed)) (fun_ext (λ d. ap (is_point value) (dates_stay d)))

    pub known_stay : map (λ term. is_some (date_value deed.unit term (chronicle deed narrative n))) (dates_of_deed deed) ≡ map (λ term. is_some (date_value deed.unit term (chronicle deed narrative (n + m)))) (dates_of_deed deed)
    known_stay = ap (λ test. map test (dates_of_deed deed)) (fun_ext (λ d. ap is_some (sym (dates_stay d))))

  -- the point after some that are no wake points isn't one for what happened at the last of them
  pub unfresh : (n m : ℕ) → NoneWakes deed narrative n (suc m) → is_fresh deed narrative (n + suc m) ≡ false
  unfresh zero m none = let no = none 0 (omega arith) in cc
  unfresh (suc n) m none =
      let e : suc n + suc m ≡ suc (suc (n + m)) = omega arith in
      let f : suc n + m ≡ suc (n + m) = omega arith in
      let no = subst (λ k. is_wake_after deed narrative k ≡ false) f (none m (omega arith)) in
      ap (is_fresh deed narrative) e
      ∙ none_of_all (λ (event : InternalEvent). (moment_at deed narrative (suc (n + m))).seen (Inner event.0 event.1)) (events_of deed) (λ event. none_inside deed acyclic narrative (n + m) no event)

  module _ (n m : ℕ) (none : NoneWakes deed narrative n m) where
    abbrev here : ℕ → ℤ
    here k = deed.start +ℤ pos k

    -- by the moments before the n-th point some date falls on the value
    abbrev falls : ℤ → Bool
    falls value = list_any (falls_on deed.unit value (chronicle deed narrative n)) (dates_of_deed deed)

    -- no known date falls on the points between
    none_between : (value : ℤ) → falls value ≡ true → int_le (here n) value ≡ true → int_le (here (n + m)) value ≡ false → ⊥
    none_between value due from before =
        let k = nat_abs (value -ℤ here n) in
        let at : here (n + k) ≡ value = sym (point_on deed.start n k) ∙ number_of (here n) value from in
        let lt : k < m = omega (arith, ints, at, before) in
        let due_there : is_due deed narrative (n + k) (n + k) ≡ true = falls_stay n k (λ i le. none i (omega (arith, lt, le))) (here (n + k)) ∙ (ap falls at ∙ due) in
        let wakes = due_wakes (n + k) due_there in
        let no = none k lt in
        cc

    from_same : (value : ℤ) → falls value ≡ true → int_le (here n) value ≡ int_le (here (n + m)) value
    from_same value due = at (int_le (here n) value) (int_le (here (n + m)) value) refl refl
      where
        at : (p q : Bool) → int_le (here n) value ≡ p → int_le (here (n + m)) value ≡ q → p ≡ q
        at true true e f = refl
        at true false e f = absurd (none_between value due e f)
        at false true e f = absurd (omega (arith, ints, e, f))
        at false false e f = refl

    -- the dates to come are the same
    pub waits : (value : ℤ) → (int_le (here n) value && falls value) ≡ (int_le (here (n + m)) value && list_any (falls_on deed.unit value (chronicle deed narrative (n + m))) (dates_of_deed deed))
    waits value = at (falls value) refl ∙ ap (λ b. int_le (here (n + m)) value && b) (sym (falls_stay n m none value))
      where
        neither : (p q : Bool) → (p && false) ≡ (q && false)
        neither true true = refl
        neither true false = refl
        neither false true = refl
        neither false false = refl

        at : (b : Bool) → falls value ≡ b → (int_le (here n) value && falls value) ≡ (int_le (here (n + m)) value && falls value)
        at true e = ap (λ p. p && falls value) (from_same value e)
        at false e = ap (λ b. int_le (here n) value && b) e ∙ (neither (int_le (here n) value) (int_le (here (n + m)) value) ∙ sym (ap (λ b. int_le (here (n + m)) value && b) e))

  -- a core that goes on over such points stands for the point behind them
  pub skipped : (core : Core) (n m : ℕ) (point : ℤ) → NoneWakes deed narrative n (suc m) → point ≡ deed.start +ℤ pos (n + suc m) → PresentStands core.present deed narrative (n + suc m) → StandsFor core deed narrative n
      → StandsFor (record { point = point; present = core.present; fresh = false; queue = core.queue; queued = core.queued }) deed narrative (n + suc m)
  skipped core n m point none at present stands = record {
    at_point = at;
    present = present;
    fresh = sym (unfresh n m none);
    dates = record {
      known = stands.dates.known ∙ known_stay n (suc m) none;
      waiting = λ value.
          stands.dates.waiting value
          ∙ (ap (λ p. int_le p value && list_any (falls_on deed.unit value (chronicle deed narrative n)) (dates_of_deed deed)) stands.at_point
          ∙ (waits n (suc m) none value
          ∙ ap (λ p. int_le p value && list_any (falls_on deed.unit value (chronicle deed narrative (n + suc m))) (dates_of_deed deed)) (sym at)));
    };
  }
