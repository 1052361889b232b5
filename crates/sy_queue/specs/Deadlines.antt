-- What a queue of deadlines holds.
use Rattle.std.specs.Prelude.{ℕ, ℤ, ◌≤ℤ◌, List, [], ◌∷◌, filter, int_lt, if◌then◌else◌}
use Rattle.std.specs.List.{AllByRecursion}

pub record Deadlines : Type 0 where
  -- the points, in ascending order; one that was put twice stands twice
  pub points : List ℤ
  -- how many more may be put
  pub spare : ℕ
  -- the spare that the queue had when it was made
  pub room : ℕ

-- a new queue
abbrev pub no_deadlines : ℕ → Deadlines
no_deadlines room = record { points = []; spare = room; room = room }

-- no point is later than one behind it
abbrev pub IsAscending : List ℤ → Type 0
IsAscending [] = Unit {0}
IsAscending (p ∷ points) = AllByRecursion (λ q. p ≤ℤ q) points × IsAscending points

-- the points and this one, which stands in front of the first that is later
abbrev pub with_point : ℤ → List ℤ → List ℤ
with_point point [] = point ∷ []
with_point point (p ∷ points) = if int_lt point p then point ∷ p ∷ points else p ∷ with_point point points

-- those of the points that are later than this one
abbrev pub later_than : ℤ → List ℤ → List ℤ
later_than point points = filter (λ p. int_lt point p) points
