-- After a point at which nothing internal happened, the next wake point is that of the next happening or of the least date known there.
use Rattle.std.proofs.Common.{◌≡◌, ℕ, zero, suc, ◌+◌, ◌<◌, ◌≤◌, ◌==◌, Bool, true, false, ◌||◌, pos, ◌+ℤ◌, List, [], ◌∷◌, length, refl, sym, ◌∙◌, ap, subst, arith}
use Rattle.std.specs.List.{list_any}
use Rattle.std.proofs.lemmas.Bool.Decides.{Decides-eqb}
use Rattle.sy_base.specs.declared.time.TimeUnit.{TimeUnit}
use Rattle.sy_core.specs.declared.event.Ev.{Ev}
use Rattle.sy_core.specs.declared.event.Ev.TheVariants.{Inner}
use Rattle.sy_core.specs.declared.date_term.DateTerm.{DateTerm}
use Rattle.sy_core.specs.declared.deed.Deed.{Deed}
use Rattle.sy_core.specs.declared.happening.Happening.{Happening}
use Rattle.sy_core.specs.Moments.{date_value}
use Rattle.sy_core.specs.Mentions.{InternalEvent}
use Rattle.sy_core.specs.Conditions.{events_of}
use Rattle.sy_core.specs.Chronicle.{chronicle, moment_at}
use Rattle.sy_core.specs.Orders.{IsAcyclic}
use Rattle.sy_core.specs.Prerequisites.{nodes, numbered_needs}
use Rattle.sy_core.specs.Wakes.{dates_of_deed, is_point, falls_on, is_wake_after}
use Rattle.sy_core.proofs.Listing.{or_false}
use Rattle.sy_quiet.specs.Histories.{History, passing, history_at}
use Rattle.sy_quiet.specs.KnownWakes.{is_told, is_due, is_eventful, NothingComes}
use Rattle.sy_quiet.proofs.Unseen.{date_unseen}
use Rattle.sy_quiet.proofs.WakeLaw.{wake_is_known, none_inside, quiet_run}

pub none_of_all : {X : Type 0} (p : X → Bool) (xs : List X) → ((x : X) → p x ≡ false) → list_any p xs ≡ false
none_of_all p [] h = refl
none_of_all p (x ∷ xs) h = let a = h x in let b = none_of_all p xs h in λ j. a j || b j

smaller : (i k : ℕ) → i < suc k → (i ≡ k → ⊥) → i < k
smaller i k lt ne = grind arith

-- dates stay while points are passed over
module _ (h : History) (unseen : (e : Ev) → h.now.seen e ≡ false) where
  now_unseen : (k : ℕ) (e : Ev) → (passing k h).now.seen e ≡ false
  now_unseen zero e = unseen e
  now_unseen (suc k) e = refl

  pub date_waits : (unit : TimeUnit) (d : DateTerm) (k : ℕ) → date_value unit d (passing k h).before ≡ date_value unit d h.before
  date_waits unit d zero = refl
  date_waits unit d (suc k) = date_unseen unit d (passing k h).before (passing k h).now (now_unseen k) ∙ date_waits unit d k

module _ (deed : Deed) (acyclic : IsAcyclic (numbered_needs deed) (length (nodes deed))) (narrative : List Happening) (n m : ℕ) (uneventful : is_eventful deed narrative n ≡ false) (nothing_comes : NothingComes deed narrative n m) where
  -- none of so many points after the n-th is a wake point
  abbrev NoneUntil : ℕ → Type 0
  NoneUntil k = (i : ℕ) → i < k → is_wake_after deed narrative (suc n + i) ≡ false

  module _ (k : ℕ) (none : NoneUntil k) where
    pub due_same : (t : ℕ) → is_due deed narrative (suc n + k) t ≡ is_due deed narrative (suc n) t
    due_same t = by_list (dates_of_deed deed)
      where
        by_date : (d : DateTerm) → date_value deed.unit d (chronicle deed narrative (suc n + k)) ≡ date_value deed.unit d (chronicle deed narrative (suc n))
        by_date d = ap (λ h. date_value deed.unit d h.before) (quiet_run deed acyclic narrative n k none) ∙ date_waits (history_at deed narrative (suc n)) (λ e. refl) deed.unit d k

        by_list : (ds : List DateTerm) → list_any (falls_on deed.unit (deed.start +ℤ pos t) (chronicle deed narrative (suc n + k))) ds ≡ list_any (falls_on deed.unit (deed.start +ℤ pos t) (chronicle deed narrative (suc n))) ds
        by_list [] = refl
        by_list (d ∷ ds) = let a = by_date d in let later = by_list ds in λ j. is_point (deed.start +ℤ pos t) (a j) || later j

  uneventful_at : (k : ℕ) → NoneUntil k → is_eventful deed narrative (n + k) ≡ false
  uneventful_at zero none = let e : n + 0 ≡ n = omega arith in ap (is_eventful deed narrative) e ∙ uneventful
  uneventful_at (suc k) none =
      let e : n + suc k ≡ suc (n + k) = omega arith in
      let f : suc n + k ≡ suc (n + k) = omega arith in
      let no = subst (λ i. is_wake_after deed narrative i ≡ false) f (none k (omega arith)) in
      ap (is_eventful deed narrative) e
      ∙ none_of_all (λ (event : InternalEvent). (moment_at deed narrative (suc (n + k))).seen (Inner event.0 event.1)) (events_of deed) (λ event. none_inside deed acyclic narrative (n + k) no event)

  wake_at : (k : ℕ) → NoneUntil k → is_wake_after deed narrative (suc n + k) ≡ (is_told deed narrative (suc n + k) || is_due deed narrative (suc n) (suc n + k))
  wake_at k none =
      let f : suc n + k ≡ suc (n + k) = omega arith in
      let due = ap (λ i. is_due deed narrative i (suc (n + k))) (sym f) ∙ due_same k none (suc (n + k)) in
      let quiet = uneventful_at k none in
      subst (λ i. is_wake_after deed narrative i ≡ (is_told deed narrative i || is_due deed narrative (suc n) i)) (sym f)
      (wake_is_known deed acyclic narrative (suc (n + k))
      ∙ ((λ j. is_told deed narrative (suc (n + k)) || due j || quiet j) ∙ or_false (is_told deed narrative (suc (n + k)) || is_due deed narrative (suc n) (suc (n + k)))))

  none_until : (k : ℕ) → k ≤ m → NoneUntil k
  none_until zero le i lt = absurd (omega (arith, lt))
  none_until (suc k) le i lt = at (i == k) refl (none_until k (omega (arith, le)))
    where
      at : (b : Bool) → (i == k) ≡ b → NoneUntil k → is_wake_after deed narrative (suc n + i) ≡ false
      at true e none =
          let same = (Decides-eqb i k).0 e in
          subst (λ x. is_wake_after deed narrative (suc n + x) ≡ false) (sym same) (wake_at k none ∙ nothing_comes k (omega (arith, le)))
      at false e none = none i (smaller i k lt (λ q. let t = (Decides-eqb i k).1 q in cc))

  pub none_wakes : (k : ℕ) → k < m → is_wake_after deed narrative (suc n + k) ≡ false
  none_wakes k lt = none_until m (omega arith) k lt

  pub next_wake : is_wake_after deed narrative (suc n + m) ≡ (is_told deed narrative (suc n + m) || is_due deed narrative (suc n) (suc n + m))
  next_wake = wake_at m (none_until m (omega arith))
