-- Over points that are no wake points no mark is added.
use Rattle.std.proofs.Common.{◌≡◌, ℕ, zero, suc, ◌+◌, ℤ, Bool, false, cond, not, ◌&&◌, ◌||◌, List, [], ◌∷◌, ◌++◌, refl, ◌∙◌, ap, append-nil, arith}
use Rattle.std.specs.List.{list_any}
use Rattle.std.specs.Ordering.{int_eq}
use Rattle.sy_words.specs.declared.kind.Kind.TheVariants.{Exerted, Violated}
use Rattle.sy_core.specs.declared.kind.Target.TheVariants as T
use Rattle.sy_core.specs.declared.event.Ev.TheVariants.{Inner}
use Rattle.sy_core.specs.declared.position.Position.{Position}
use Rattle.sy_core.specs.declared.deed.Deed.{Deed}
use Rattle.sy_core.specs.declared.happening.Happening.{Happening}
use Rattle.sy_core.specs.Moments.{Moment}
use Rattle.sy_core.specs.Chronicle.{at_point, exerts, chronicle, moment_at}
use Rattle.sy_core.specs.Soundness.{IsOrdered}
use Rattle.sy_core.specs.Tables.{marks, marks_at, is_violated, is_void}
use Rattle.sy_core.specs.Wakes.{dates_of_deed, falls_on, has_internal_event, is_wake_after}
use Rattle.sy_quiet.specs.KnownWakes.{is_told}
use Rattle.sy_quiet.proofs.Members.{any_of_kept}
use Rattle.sy_quiet.proofs.WakeLaw.{or_left, or_right, none_inside}
use Rattle.sy_point.specs.Standing.{NoneWakes}
use Rattle.sy_monitor.proofs.Marking.{one_moment}

none_of_fewer : {X : Type 0} (p q : X → Bool) (xs : List X) → list_any p xs ≡ false → list_any (λ x. p x && q x) xs ≡ false
none_of_fewer p q [] h = refl
none_of_fewer p q (x ∷ xs) h =
    let one = or_left (p x) (list_any p xs) h in
    let later = none_of_fewer p q xs (or_right (p x) (list_any p xs) h) in
    λ j. (one j && q x) || later j

-- where nothing is told no power is exerted
none_asked : (narrative : List Happening) (point : ℤ) (i : ℕ) → list_any (λ h. int_eq h.point point) narrative ≡ false → list_any (exerts i) (at_point narrative point) ≡ false
none_asked narrative point i h =
    any_of_kept (λ (h : Happening). h.what) (λ h. int_eq h.point point) (exerts i) narrative
    ∙ none_of_fewer (λ (h : Happening). int_eq h.point point) (λ h. exerts i h.what) narrative h

none_marked : (test : Moment → ℕ → Bool) (m : Moment) → ((i : ℕ) → test m i ≡ false) → (i : ℕ) (ps : List Position) → marks_at test m i ps ≡ []
none_marked test m none i [] = refl
none_marked test m none i (p ∷ ps) =
    let no = none i in
    (λ j. cond (no j) (record { point = m.point; position = i } ∷ marks_at test m (i + 1) ps) (marks_at test m (i + 1) ps))
    ∙ none_marked test m none (i + 1) ps

module _ (deed : Deed) (ordered : IsOrdered deed) (narrative : List Happening) where
  -- the test is false of each point that is no wake point
  abbrev IsIdle : (Moment → ℕ → Bool) → Type 0
  IsIdle test = (n : ℕ) → is_wake_after deed narrative n ≡ false → (i : ℕ) → test (moment_at deed narrative n) i ≡ false

  violated_idle : IsIdle is_violated
  violated_idle zero h i = cc
  violated_idle (suc n) h i = none_inside deed ordered.complete narrative n h (Violated, T.Position i)

  void_idle : IsIdle is_void
  void_idle zero h i = cc
  void_idle (suc n) h i =
      let told : is_told deed narrative (suc n) ≡ false =
      or_left (is_told deed narrative (suc n)) (list_any (falls_on deed.unit _ (chronicle deed narrative (suc (suc n)))) (dates_of_deed deed))
      (or_left _ (has_internal_event deed (moment_at deed narrative n)) h) in
      ap (λ b. b && not ((moment_at deed narrative (suc n)).seen (Inner Exerted (T.Position i)))) (none_asked narrative _ i told)

  marks_quiet : (test : Moment → ℕ → Bool) → IsIdle test → (n m : ℕ) → NoneWakes deed narrative n m → marks test deed.positions (chronicle deed narrative (n + m)) ≡ marks test deed.positions (chronicle deed narrative n)
  marks_quiet test idle n zero none =
      let e : n + 0 ≡ n = omega arith in ap (λ k. marks test deed.positions (chronicle deed narrative k)) e
  marks_quiet test idle n (suc m) none =
      let e : n + suc m ≡ suc (n + m) = omega arith in
      let before = chronicle deed narrative (n + m) in
      let moment = moment_at deed narrative (n + m) in
      ap (λ k. marks test deed.positions (chronicle deed narrative k)) e
      ∙ (one_moment test deed.positions before moment
      ∙ (ap (λ l. marks test deed.positions before ++ l) (none_marked test moment (idle (n + m) (none m (omega arith))) 0 deed.positions)
      ∙ (append-nil (marks test deed.positions before) ∙ marks_quiet test idle n m (λ k lt. none k (omega (arith, lt))))))

  pub violations_quiet : (n m : ℕ) → NoneWakes deed narrative n m → marks is_violated deed.positions (chronicle deed narrative (n + m)) ≡ marks is_violated deed.positions (chronicle deed narrative n)
  violations_quiet = marks_quiet is_violated violated_idle

  pub voids_quiet : (n m : ℕ) → NoneWakes deed narrative n m → marks is_void deed.positions (chronicle deed narrative (n + m)) ≡ marks is_void deed.positions (chronicle deed narrative n)
  voids_quiet = marks_quiet is_void void_idle
