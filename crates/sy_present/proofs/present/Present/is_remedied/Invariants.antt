use Rattle.std.proofs.Common.{◌≡◌, ◌&&◌, drop}
use Rattle.std.specs.List.{list_any, enumerate_from}
use Rattle.sy_core.specs.declared.state.StateOf.TheVariants.{Fulfillment}
use Rattle.sy_core.specs.States.{same_state}
use Rattle.sy_core.specs.Conditions.{is_remedy, next_state, is_remedied}
use Rattle.sy_quiet.specs.Histories.{History}
use Rattle.sy_present.specs.Machine.Told.{IsPresent}
use Rattle.sy_present.proofs.present.Present.is_remedied.Given as goal

-- whether some remedy is fulfilled is left to the positions from here on
abbrev pub invariant-loop-position : goal.invariant-loop-position
invariant-loop-position l = record {
  number : l.number ≡ l.position-index;
  rest : (h : History) → IsPresent l.self l.deed h
      → list_any (λ n. is_remedy l.violated n.1 && same_state (next_state h.now n.0 n.1) Fulfillment) (enumerate_from l.number (drop l.position-index l.position-items))
      ≡ is_remedied l.deed h.now l.violated;
}
