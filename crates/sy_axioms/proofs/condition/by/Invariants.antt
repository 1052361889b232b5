use Rattle.std.proofs.Common.{◌≡◌, ◌&&◌, drop}
use Rattle.std.specs.List.{list_any, enumerate_from}
use Rattle.sy_words.specs.declared.kind.Kind.TheVariants.{Exerted}
use Rattle.sy_core.specs.declared.kind.Target.TheVariants as T
use Rattle.sy_core.specs.Conditions.{is_act, happened, by}
use Rattle.sy_axioms.specs.Machine.Presents.{moment_now}
use Rattle.sy_axioms.proofs.condition.by.Given as goal

abbrev pub invariant-loop-position : goal.invariant-loop-position
invariant-loop-position l = record {
  number : l.number ≡ l.position-index;
  rest : list_any (λ n. is_act l.verb l.target n.1.goal && happened (moment_now l.present) Exerted (T.Position n.0)) (enumerate_from l.number (drop l.position-index l.position-items)) ≡ by l.present.deed.now (moment_now l.present) l.verb l.target;
}
