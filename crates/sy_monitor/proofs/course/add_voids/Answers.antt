use Rattle.std.proofs.Common.{◌≡◌, ◌+◌, ◌∙◌, Some, slice_get, get_or, sym, ap}
use Rattle.std.proofs.lemmas.Option.{slice_get-get_or}
use Rattle.sy_core.specs.Chronicle.{moment_at}
use Rattle.sy_core.specs.Tables.{is_void}
use Rattle.sy_monitor.proofs.Marking.{one_position}
use Rattle.sy_monitor.proofs.course.add_voids.Goals as goal

pub loop-position-preserved : goal.loop-position-preserved
loop-position-preserved c = record {
  number = ap (λ k. k + 1) c.loop-position.invariant.number;
  told = λ n tells at.
      let deed = c.args.deed.now in
      let positions = c.items-position-items.result.now in
      let i = c.loop-position._position-index in
      let position = get_or positions i c._position-item.result in
      let same : positions ≡ deed.positions = c.items-position-items.ensures in
      let there : slice_get deed.positions c.loop-position.number ≡ Some position =
      ap (slice_get deed.positions) c.loop-position.invariant.number ∙ ap (λ xs. slice_get xs i) (sym same)
      ∙ slice_get-get_or positions i c._position-item.result c.loop-position-test.true in
      one_position is_void (moment_at deed c.args.story.now.happenings n) positions i c.loop-position.number c._position-item.result _ c.is_void-void.result _ c.add_if.new.marks _ c.loop-position-test.true at
      (c.is_void-void.ensures deed n position there tells at) c.in_ok-add_if.ensures (c.loop-position.invariant.told n tells at);
}
