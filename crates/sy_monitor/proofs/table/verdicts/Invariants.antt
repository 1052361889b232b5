use Rattle.std.proofs.Common.{◌≡◌, ◌++◌, ℕ, suc, List, drop, map}
use Rattle.sy_core.specs.declared.happening.Happening.{Happening}
use Rattle.sy_core.specs.Chronicle.{chronicle, moment_at}
use Rattle.sy_core.specs.Propositions.{verdict_at}
use Rattle.sy_point.specs.Standing.{StandsFor}
use Rattle.sy_monitor.proofs.table.verdicts.Given as goal

-- what was added and what the rest gives are all the verdicts
abbrev pub invariant-loop-post : goal.invariant-loop-post
invariant-loop-post l = record {
  number : l.number ≡ l._post-index;
  told : (narrative : List Happening) (n : ℕ) → StandsFor l.core l.deed narrative (suc n)
      → l.verdicts ++ map (verdict_at l.deed.unit (moment_at l.deed narrative n) (chronicle l.deed narrative n)) (drop l._post-index l._post-items)
      ≡ map (verdict_at l.deed.unit (moment_at l.deed narrative n) (chronicle l.deed narrative n)) l._post-items;
}
