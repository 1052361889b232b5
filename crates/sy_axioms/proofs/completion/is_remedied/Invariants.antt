use Rattle.std.proofs.Common.{◌≡◌, ◌&&◌, drop}
use Rattle.std.specs.List.{list_any, enumerate_from}
use Rattle.sy_core.specs.declared.state.StateOf.TheVariants.{Fulfillment}
use Rattle.sy_core.specs.States.{same_state}
use Rattle.sy_core.specs.Conditions.{is_remedy, next_state, is_remedied}
use Rattle.sy_axioms.specs.Machine.Presents.{moment_now}
use Rattle.sy_axioms.proofs.completion.is_remedied.Given as goal

abbrev pub invariant-loop-position : goal.invariant-loop-position
invariant-loop-position l = record {
  number : l.number ≡ l.position-index;
  rest : list_any (λ n. is_remedy l.violated n.1 && same_state (next_state (moment_now l.present) n.0 n.1) Fulfillment) (enumerate_from l.number (drop l.position-index l.position-items)) ≡ is_remedied l.present.deed.now (moment_now l.present) l.violated;
}
