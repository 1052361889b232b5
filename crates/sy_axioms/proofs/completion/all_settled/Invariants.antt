use Rattle.std.proofs.Common.{◌≡◌, ◌||◌, not, drop}
use Rattle.std.specs.List.{list_all, enumerate_from}
use Rattle.sy_core.specs.declared.kind.Target.TheVariants as T
use Rattle.sy_core.specs.Conditions.{is_awaited, is_settled, next_state, is_remedied, all_settled}
use Rattle.sy_axioms.specs.Machine.Presents.{moment_now}
use Rattle.sy_axioms.proofs.completion.all_settled.Given as goal

abbrev pub invariant-loop-position : goal.invariant-loop-position
invariant-loop-position l = record {
  number : l.number ≡ l.position-index;
  rest : list_all (λ n. not (is_awaited n.1.form) || is_settled (next_state (moment_now l.present) n.0 n.1) (is_remedied l.present.deed.now (moment_now l.present) (T.Position n.0))) (enumerate_from l.number (drop l.position-index l.position-items)) ≡ all_settled l.present.deed.now (moment_now l.present);
}
