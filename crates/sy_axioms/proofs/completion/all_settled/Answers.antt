use Rattle.std.proofs.Common.{refl}
use Rattle.sy_core.specs.declared.kind.Target.TheVariants as T
use Rattle.sy_core.specs.Conditions.{is_awaited, is_settled, next_state, is_remedied}
use Rattle.sy_axioms.specs.Machine.Presents.{moment_now}
use Rattle.sy_quiet.proofs.Numbered.{all-numbered}
use Rattle.sy_axioms.proofs.completion.all_settled.Goals as goal

pub loop-position-init : goal.loop-position-init
loop-position-init c = record {
  number = refl;
  rest = all-numbered (λ n. is_awaited n.1.form) (λ n. is_settled (next_state (moment_now c.args.present.now) n.0 n.1) (is_remedied c.args.present.now.deed.now (moment_now c.args.present.now) (T.Position n.0))) _ _ c.items-position-items.ensures;
}
