-- The verdict of a proposition at a point.
-- A verdict is False, Open or True, in this order. The connectives are those of strong Kleene logic: and is the least, or the greatest,
-- and not swaps False and True. Of a date that has no value yet, a proposition is Open.
--   happens(E)             True once E has happened; never False
--   happensBefore(E, D)    True where E happened before D; False from D on where it didn't
--   happensAfter(E, D)     True where E happened after D; never False
--   happensWithin(E, D, F) True where E happened from D on and before F; False from F on where it didn't
--   occurs(S, D, F)        False where S failed at a point from D on and before F; True from F on where it didn't
--   holds(S)               True where S holds at the start of the point, else False
use Rattle.std.specs.Prelude.{ℤ, Bool, true, false, not, ◌&&◌, List, [], ◌∷◌, Option, Some, None, int_lt, int_le}
use Rattle.std.specs.List.{list_any}
use Rattle.sy_base.specs.declared.time.TimeUnit.{TimeUnit}
use Rattle.sy_core.specs.declared.table.Verdict.{Verdict}
use Rattle.sy_core.specs.declared.table.Verdict.TheVariants.{False, Open, True}
use Rattle.sy_core.specs.declared.date_term.DateTerm.{DateTerm}
use Rattle.sy_core.specs.declared.proposition.Situation.{Situation}
use Rattle.sy_core.specs.declared.proposition.Prop.{Prop}
use Rattle.sy_core.specs.declared.proposition.Prop.TheOpen.{Prop-F}
use Rattle.sy_core.specs.declared.proposition.Prop.TheOpen as P
use Rattle.sy_core.specs.declared.proposition.Prop.TheFolds.{fold-Prop}
use Rattle.sy_core.specs.States.{same_state}
use Rattle.sy_core.specs.Moments.{Moment, up_to, seen_ever, seen_before, seen_after, seen_between, date_value}

-- not
abbrev pub opposite : Verdict → Verdict
opposite False = True
opposite Open = Open
opposite True = False

-- the lesser of two verdicts
abbrev pub lesser : Verdict → Verdict → Verdict
lesser False v = False
lesser True v = v
lesser Open False = False
lesser Open _ = Open

-- the greater of two verdicts
abbrev pub greater : Verdict → Verdict → Verdict
greater True v = True
greater False v = v
greater Open True = True
greater Open _ = Open

-- and
abbrev pub least : List Verdict → Verdict
least [] = True
least (v ∷ vs) = lesser v (least vs)

-- or
abbrev pub greatest : List Verdict → Verdict
greatest [] = False
greatest (v ∷ vs) = greater v (greatest vs)

-- True where the first test says so, else False where the second does, else Open
abbrev pub verdict_by : Bool → Bool → Verdict
verdict_by true fails = True
verdict_by false true = False
verdict_by false false = Open

-- Open while a date has no value
abbrev pub with_date : Option ℤ → (ℤ → Verdict) → Verdict
with_date None verdict = Open
with_date (Some date) verdict = verdict date

-- what a situation says of its target's state: that it is the one named, or that it isn't
abbrev pub as_said : Bool → Bool → Bool
as_said true same = same
as_said false same = not same

-- the situation holds at a point, by the states at its start
abbrev pub situation_holds : Situation → Moment → Bool
situation_holds s m = as_said s.equal (same_state (m.state s.target) s.state)

-- the situation fails at some point from the one date on and before the other
abbrev pub fails_within : Situation → ℤ → ℤ → List Moment → Bool
fails_within s from to moments = list_any (λ m. (int_le from m.point && int_lt m.point to) && not (situation_holds s m)) moments

module _ (unit : TimeUnit) (now : Moment) (before : List Moment) where
  -- a term's date, by the moments up to now
  abbrev pub date_now : DateTerm → Option ℤ
  date_now term = date_value unit term (up_to now before)

  -- the verdict of one proposition, with the verdict of each part in its place
  abbrev pub verdict_step : Prop-F Verdict → Verdict
  verdict_step (P.Const b) = verdict_by b (not b)
  verdict_step (P.Not v) = opposite v
  verdict_step (P.All vs) = least vs
  verdict_step (P.Any vs) = greatest vs
  verdict_step (P.Happens e) = verdict_by (seen_ever e (up_to now before)) false
  verdict_step (P.Before e to) =
      with_date (date_now to) (λ d. verdict_by (seen_before e d (up_to now before)) (int_le d now.point))
  verdict_step (P.After e from) =
      with_date (date_now from) (λ d. verdict_by (seen_after e d (up_to now before)) false)
  verdict_step (P.Within e from to) =
      with_date (date_now from) (λ d.
      with_date (date_now to) (λ d'.
      verdict_by (seen_between e d d' (up_to now before)) (int_le d' now.point)))
  verdict_step (P.Occurs s from to) =
      with_date (date_now from) (λ d.
      with_date (date_now to) (λ d'.
      verdict_by (int_le d' now.point && not (fails_within s d d' (up_to now before))) (fails_within s d d' (up_to now before))))
  verdict_step (P.Holds s) = verdict_by (situation_holds s now) (not (situation_holds s now))

  -- the verdict now, after the moments before
  abbrev pub verdict_at : Prop → Verdict
  verdict_at = fold-Prop Verdict verdict_step

-- the verdict is True
abbrev pub is_true : Verdict → Bool
is_true True = true
is_true _ = false

-- the verdict is False
abbrev pub is_false : Verdict → Bool
is_false False = true
is_false _ = false
