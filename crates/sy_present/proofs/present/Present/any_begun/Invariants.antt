use Rattle.std.proofs.Common.{◌≡◌, ◌&&◌, not, drop}
use Rattle.std.specs.List.{list_any, enumerate_from}
use Rattle.sy_core.specs.declared.state.StateOf.TheVariants.{Null}
use Rattle.sy_core.specs.States.{same_state}
use Rattle.sy_core.specs.Conditions.{is_awaited, next_state, any_begun}
use Rattle.sy_quiet.specs.Histories.{History}
use Rattle.sy_present.specs.Machine.Told.{IsPresent}
use Rattle.sy_present.proofs.present.Present.any_begun.Given as goal

-- whether some awaited obligation has begun is left to the positions from here on
abbrev pub invariant-loop-position : goal.invariant-loop-position
invariant-loop-position l = record {
  number : l.number ≡ l.position-index;
  rest : (h : History) → IsPresent l.self l.deed h
      → list_any (λ n. is_awaited n.1.form && not (same_state (next_state h.now n.0 n.1) Null)) (enumerate_from l.number (drop l.position-index l.position-items))
      ≡ any_begun l.deed h.now;
}
