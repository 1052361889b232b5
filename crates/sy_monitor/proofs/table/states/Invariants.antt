use Rattle.std.proofs.Common.{◌≡◌, ◌++◌, ℕ, List, drop}
use Rattle.sy_core.specs.declared.happening.Happening.{Happening}
use Rattle.sy_core.specs.Chronicle.{state_at}
use Rattle.sy_core.specs.Tables.{states_of}
use Rattle.sy_point.specs.Standing.{StandsFor}
use Rattle.sy_monitor.proofs.table.states.Given as goal

-- what was added and what the rest gives are all the states
abbrev pub invariant-loop-position : goal.invariant-loop-position
invariant-loop-position l = record {
  number : l.number ≡ l._position-index;
  told : (narrative : List Happening) (n : ℕ) → StandsFor l.core l.deed narrative n
      → l.states ++ states_of (state_at l.deed narrative n) l.number (drop l._position-index l._position-items)
      ≡ states_of (state_at l.deed narrative n) 0 l._position-items;
}
