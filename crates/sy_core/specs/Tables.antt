-- The table as of a date.
-- From start on it has the states after the date, the violations up to it, the exertions in the narrative up to it that did nothing, and
-- the verdict of each postcondition at it. Before start the contract is Form, every position is Null, and every postcondition is Open.
use Rattle.std.specs.Prelude.{ℕ, suc, ℤ, pos, ◌+ℤ◌, ◌-ℤ◌, nat_abs, ◌+◌, Bool, not, ◌&&◌, List, [], ◌∷◌, ◌++◌, map, replicate, length, int_lt, if◌then◌else◌}
use Rattle.sy_words.specs.declared.kind.Kind.TheVariants.{Exerted, Violated}
use Rattle.sy_core.specs.declared.kind.Target.{Target}
use Rattle.sy_core.specs.declared.kind.Target.TheVariants as T
use Rattle.sy_core.specs.declared.event.Ev.TheVariants.{Inner}
use Rattle.sy_core.specs.declared.state.StateOf.{StateOf}
use Rattle.sy_core.specs.declared.state.StateOf.TheVariants as S
use Rattle.sy_core.specs.declared.table.Verdict.TheVariants as V
use Rattle.sy_core.specs.declared.table.Mark.{Mark}
use Rattle.sy_core.specs.declared.table.Table.{Table}
use Rattle.sy_core.specs.declared.position.Position.{Position}
use Rattle.sy_core.specs.declared.deed.Deed.{Deed}
use Rattle.sy_core.specs.declared.happening.Happening.{Happening}
use Rattle.sy_core.specs.Moments.{Moment}
use Rattle.sy_core.specs.Propositions.{verdict_at}
use Rattle.sy_core.specs.Chronicle.{chronicle, state_at, moment_at}

-- a mark for each position that passes a test at a moment, from number i on
abbrev pub marks_at : (Moment → ℕ → Bool) → Moment → ℕ → List Position → List Mark
marks_at test m i [] = []
marks_at test m i (p ∷ ps) =
    if test m i then record { point = m.point; position = i } ∷ marks_at test m (i + 1) ps else marks_at test m (i + 1) ps

-- the marks of some moments: by point, then by position
abbrev pub marks : (Moment → ℕ → Bool) → List Position → List Moment → List Mark
marks test positions [] = []
marks test positions (m ∷ later) = marks_at test m 0 positions ++ marks test positions later

-- the position is violated at the moment
abbrev pub is_violated : Moment → ℕ → Bool
is_violated m i = m.seen (Inner Violated (T.Position i))

-- the narrative exerts the power at the moment, and it isn't exerted
abbrev pub is_void : Moment → ℕ → Bool
is_void m i = m.asked i && not (m.seen (Inner Exerted (T.Position i)))

-- the states of the positions from number i on
abbrev pub states_of : (Target → StateOf) → ℕ → List Position → List StateOf
states_of state i [] = []
states_of state i (p ∷ ps) = state (T.Position i) ∷ states_of state (i + 1) ps

-- the table as of the n-th point after start
abbrev pub table_after : Deed → List Happening → ℕ → Table
table_after deed narrative n = record {
  at = deed.start +ℤ pos n;
  contract = state_at deed narrative (suc n) T.Contract;
  states = states_of (state_at deed narrative (suc n)) 0 deed.positions;
  violations = marks is_violated deed.positions (chronicle deed narrative (suc n));
  voids = marks is_void deed.positions (chronicle deed narrative (suc n));
  posts = map (verdict_at deed.unit (moment_at deed narrative n) (chronicle deed narrative n)) deed.posts;
}

-- the table as of a date before start
abbrev pub table_before : Deed → ℤ → Table
table_before deed date = record {
  at = date;
  contract = S.Form;
  states = replicate (length deed.positions) S.Null;
  violations = [];
  voids = [];
  posts = replicate (length deed.posts) V.Open;
}

-- the table as of a date
abbrev pub table_as_of : Deed → List Happening → ℤ → Table
table_as_of deed narrative date =
    if int_lt date deed.start then table_before deed date else table_after deed narrative (nat_abs (date -ℤ deed.start))
