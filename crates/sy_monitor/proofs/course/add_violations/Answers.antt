use Rattle.std.proofs.Common.{◌≡◌, ◌+◌, ◌∙◌, Some, slice_get, get_or, sym, ap}
use Rattle.std.proofs.lemmas.Option.{slice_get-get_or}
use Rattle.sy_words.specs.declared.kind.Kind.TheVariants.{Violated}
use Rattle.sy_core.specs.Tables.{is_violated}
use Rattle.sy_monitor.proofs.Marking.{one_position}
use Rattle.sy_monitor.proofs.course.add_violations.Goals as goal

pub loop-position-preserved : goal.loop-position-preserved
loop-position-preserved c = record {
  number = ap (λ k. k + 1) c.loop-position.invariant.number;
  told = λ m tells at.
      let deed = c.args.deed.now in
      let positions = c.items-position-items.result.now in
      let i = c.loop-position._position-index in
      let position = get_or positions i c._position-item.result in
      let same : positions ≡ deed.positions = c.items-position-items.ensures in
      let there : slice_get deed.positions c.loop-position.number ≡ Some position =
      ap (slice_get deed.positions) c.loop-position.invariant.number ∙ ap (λ xs. slice_get xs i) (sym same)
      ∙ slice_get-get_or positions i c._position-item.result c.loop-position-test.true in
      one_position is_violated m positions i c.loop-position.number c._position-item.result _ c.happened-violated.result _ c.add_if.new.marks _ c.loop-position-test.true at
      (c.happened-violated.ensures ∙ tells Violated c.loop-position.number position there) c.in_ok-add_if.ensures (c.loop-position.invariant.told m tells at);
}
