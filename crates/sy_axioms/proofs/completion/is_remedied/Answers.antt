use Rattle.std.proofs.Common.{refl}
use Rattle.sy_core.specs.declared.state.StateOf.TheVariants.{Fulfillment}
use Rattle.sy_core.specs.States.{same_state}
use Rattle.sy_core.specs.Conditions.{is_remedy, next_state}
use Rattle.sy_axioms.specs.Machine.Presents.{moment_now}
use Rattle.sy_quiet.proofs.Numbered.{any-numbered}
use Rattle.sy_axioms.proofs.completion.is_remedied.Goals as goal

pub loop-position-init : goal.loop-position-init
loop-position-init c = record {
  number = refl;
  rest = any-numbered (λ n. is_remedy c.args.violated n.1) (λ n. same_state (next_state (moment_now c.args.present.now) n.0 n.1) Fulfillment) _ _ c.items-position-items.ensures;
}
