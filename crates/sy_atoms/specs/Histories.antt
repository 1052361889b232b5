-- The histories of which latches speak: those whose moments gone by come before the present point, from the one at start on.
use Rattle.std.specs.Prelude.{ℤ, ◌<ℤ◌, List, [], ◌∷◌}
use Rattle.sy_core.specs.Moments.{Moment}
use Rattle.sy_core.specs.Chronicle.{first_state}
use Rattle.sy_quiet.specs.Histories.{History, quiet}

-- every moment of the list comes before the point
abbrev pub AllUnder : ℤ → List Moment → Type 0
AllUnder p [] = Unit {0}
AllUnder p (m ∷ ms) = (m.point <ℤ p) × AllUnder p ms

-- the moments gone by come before the present point
abbrev pub IsOrderly : History → Type 0
IsOrderly h = AllUnder h.now.point h.before

-- at start nothing was told yet
abbrev pub first_history : ℤ → History
first_history start = record { before = []; now = quiet start first_state; next = first_state }
