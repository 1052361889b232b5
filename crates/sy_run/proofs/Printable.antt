-- The tables as of a date can be printed.
use Rattle.std.proofs.Common.{◌≡◌, ℕ, zero, suc, ◌+◌, ◌<◌, ◌≤◌, ℤ, pos, ◌+ℤ◌, ◌-ℤ◌, ◌≤ℤ◌, nat_abs, int_lt, Bool, true, false, cond, List, [], ◌∷◌, length, refl, sym, ap, subst, arith}
use Rattle.std.specs.List.{All}
use Rattle.std.proofs.lemmas.Int.{ints}
use Rattle.std.proofs.lemmas.List.{length-replicate}
use Rattle.std.proofs.lemmas.List.Elements.{All-append}
use Rattle.sy_base.specs.declared.time.TimeUnit.{TimeUnit}
use Rattle.sy_base.specs.Points.{IsDated}
use Rattle.sy_core.specs.declared.deed.Deed.{Deed}
use Rattle.sy_core.specs.declared.happening.Happening.{Happening}
use Rattle.sy_core.specs.declared.kind.Target.{Target}
use Rattle.sy_core.specs.declared.position.Position.{Position}
use Rattle.sy_core.specs.declared.state.StateOf.{StateOf}
use Rattle.sy_core.specs.declared.state.StateOf.TheVariants as S
use Rattle.sy_core.specs.declared.table.Mark.{Mark}
use Rattle.sy_core.specs.Chronicle.{chronicle, moment_at, state_at}
use Rattle.sy_core.specs.Moments.{Moment}
use Rattle.sy_core.specs.Tables.{is_violated, is_void, marks, marks_at, states_of, table_before, table_after, table_as_of}
use Rattle.sy_report.specs.Printing.{IsPrintable}
use Rattle.sy_monitor.proofs.Marking.{one_moment}

-- a point between two dates is one
pub between : (unit : TimeUnit) (start date : ℤ) (k n : ℕ) → IsDated unit start → IsDated unit date → start +ℤ pos n ≡ date → k ≤ n → IsDated unit (start +ℤ pos k)
between unit start date k n low high reaches le = record {
  not_before = let h = low.not_before in omega (arith, ints);
  not_after = let h = high.not_after in omega (arith, ints);
}

-- the points from start reach the date
pub reached : (start date : ℤ) → start ≤ℤ date → start +ℤ pos (nat_abs (date -ℤ start)) ≡ date
reached start date le = omega (arith, ints)

All-cons : {X : Type 0} (P : X → Type 0) (x : X) (xs : List X) → P x → All P xs → All P (x ∷ xs)
All-cons P x xs here later zero d lt = here
All-cons P x xs here later (suc k) d lt = later k d (omega arith)

All-nil : {X : Type 0} (P : X → Type 0) → All P []
All-nil P k d lt = absurd (omega arith)

length-states_of : (s : Target → StateOf) (i : ℕ) (ps : List Position) → length (states_of s i ps) ≡ length ps
length-states_of s i [] = refl
length-states_of s i (p ∷ ps) = ap suc (length-states_of s (i + 1) ps)

module _ (unit : TimeUnit) (test : Moment → ℕ → Bool) where
  abbrev IsDatedMark : Mark → Type 0
  IsDatedMark m = IsDated unit m.point

  marks_at_dated : (m : Moment) → IsDated unit m.point → (i : ℕ) (ps : List Position) → All IsDatedMark (marks_at test m i ps)
  marks_at_dated m dated i [] = All-nil IsDatedMark
  marks_at_dated m dated i (p ∷ ps) = more (test m i) (marks_at test m (i + 1) ps) (marks_at_dated m dated (i + 1) ps)
    where
      more : (b : Bool) (later : List Mark) → All IsDatedMark later → All IsDatedMark (cond b (record { point = m.point; position = i } ∷ later) later)
      more true later all = All-cons IsDatedMark (record { point = m.point; position = i }) later dated all
      more false later all = all

  marks_dated : (d : Deed) (narrative : List Happening) (n : ℕ) → ((k : ℕ) → k < n → IsDated unit (d.start +ℤ pos k)) → All IsDatedMark (marks test d.positions (chronicle d narrative n))
  marks_dated d narrative zero dated = All-nil IsDatedMark
  marks_dated d narrative (suc n) dated =
      subst (All IsDatedMark) (sym (one_moment test d.positions (chronicle d narrative n) (moment_at d narrative n)))
      (All-append IsDatedMark (marks test d.positions (chronicle d narrative n)) (marks_at test (moment_at d narrative n) 0 d.positions)
      (marks_dated d narrative n (λ k lt. dated k (omega arith)))
      (marks_at_dated (moment_at d narrative n) (dated n (omega arith)) 0 d.positions))

pub before_is_printable : (d : Deed) (date : ℤ) → IsDated d.unit date → IsPrintable d (table_before d date)
before_is_printable d date dated = record {
  at = dated;
  states = length-replicate (length d.positions) S.Null;
  violations = All-nil _;
  voids = All-nil _;
}

pub after_is_printable : (d : Deed) (narrative : List Happening) (n : ℕ) → ((k : ℕ) → k < suc n → IsDated d.unit (d.start +ℤ pos k)) → IsPrintable d (table_after d narrative n)
after_is_printable d narrative n dated = record {
  at = dated n (omega arith);
  states = length-states_of (state_at d narrative (suc n)) 0 d.positions;
  violations = marks_dated d.unit is_violated d narrative (suc n) dated;
  voids = marks_dated d.unit is_void d narrative (suc n) dated;
}

module _ (d : Deed) (narrative : List Happening) (date : ℤ) (start : IsDated d.unit d.start) (dated : IsDated d.unit date) where
  from_start : d.start ≤ℤ date → IsPrintable d (table_after d narrative (nat_abs (date -ℤ d.start)))
  from_start le =
      let n = nat_abs (date -ℤ d.start) in
      after_is_printable d narrative n (λ k lt. between d.unit d.start date k n start dated (reached d.start date le) (omega arith))

  by_date : (test : Bool) → int_lt date d.start ≡ test
      → IsPrintable d (cond test (table_before d date) (table_after d narrative (nat_abs (date -ℤ d.start))))
  by_date true is = before_is_printable d date dated
  by_date false is = from_start (grind (arith, ints))

  -- so the table as of a date can be printed
  pub as_of_is_printable : IsPrintable d (table_as_of d narrative date)
  as_of_is_printable = by_date (int_lt date d.start) refl
