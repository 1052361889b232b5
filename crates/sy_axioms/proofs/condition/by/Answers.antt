use Rattle.std.proofs.Common.{refl}
use Rattle.sy_words.specs.declared.kind.Kind.TheVariants.{Exerted}
use Rattle.sy_core.specs.declared.kind.Target.TheVariants as T
use Rattle.sy_core.specs.Conditions.{is_act, happened}
use Rattle.sy_axioms.specs.Machine.Presents.{moment_now}
use Rattle.sy_quiet.proofs.Numbered.{any-numbered}
use Rattle.sy_axioms.proofs.condition.by.Goals as goal

pub loop-position-init : goal.loop-position-init
loop-position-init c = record {
  number = refl;
  rest = any-numbered (λ n. is_act c.args.verb c.args.target n.1.goal) (λ n. happened (moment_now c.args.present.now) Exerted (T.Position n.0)) _ _ c.items-position-items.ensures;
}
