-- How a queue keeps its points.
use Rattle.std.specs.Prelude.{◌≡◌, ℕ, ℤ, ◌≤◌, true, false, int_lt, List, length, reverse}
use Rattle.std.specs.List.Sorted.{IsPartitionPoint}
use Rattle.sy_queue.specs.Deadlines.{IsAscending}

-- the items are the points from the last to the earliest, and memory for all of the room is held
pub record IsKept (items : List ℤ) (room capacity : ℕ) : Type 0 where
  pub ascending : IsAscending (reverse items)
  pub within : length items ≤ room
  pub held : room ≤ capacity

-- the first n items are later than the point, and no other is
pub record AreLaterBelow (point : ℤ) (items : List ℤ) (n : ℕ) : Type 0 where
  pub within : n ≤ length items
  pub parts : IsPartitionPoint (λ p. int_lt point p ≡ true) (λ p. int_lt point p ≡ false) items n
