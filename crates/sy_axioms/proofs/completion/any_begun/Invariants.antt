use Rattle.std.proofs.Common.{◌≡◌, ◌&&◌, not, drop}
use Rattle.std.specs.List.{list_any, enumerate_from}
use Rattle.sy_core.specs.declared.state.StateOf.TheVariants.{Null}
use Rattle.sy_core.specs.States.{same_state}
use Rattle.sy_core.specs.Conditions.{is_awaited, next_state, any_begun}
use Rattle.sy_axioms.specs.Machine.Presents.{moment_now}
use Rattle.sy_axioms.proofs.completion.any_begun.Given as goal

abbrev pub invariant-loop-position : goal.invariant-loop-position
invariant-loop-position l = record {
  number : l.number ≡ l.position-index;
  rest : list_any (λ n. is_awaited n.1.form && not (same_state (next_state (moment_now l.present) n.0 n.1) Null)) (enumerate_from l.number (drop l.position-index l.position-items)) ≡ any_begun l.present.deed.now (moment_now l.present);
}
