use Rattle.std.proofs.Common.{◌≡◌, to_z, of_z, w64, ap, ◌∙◌, reverse}
use Rattle.std.proofs.lemmas.Int.{to_z-of_z}
use Rattle.sy_queue.specs.Deadlines.{later_than}
use Rattle.sy_queue.specs.Machine.Keeping.{AreLaterBelow}
use Rattle.sy_queue.proofs.Splitting.{cut}
use Rattle.sy_queue.proofs.Kept.{cut_keeps}
use Rattle.sy_queue.proofs.queue.DeadlineQueue.pop_through.Goals as goal

pub invariant_of-self : goal.invariant_of-self
invariant_of-self c =
    let same : to_z w64 (of_z w64 c.args.point) ≡ c.args.point = to_z-of_z w64 c.args.point c.ranges.point in
    let split : AreLaterBelow c.args.point c.self.inside.points.items c.count_later-later.result = simp (c.deref.ensures.value, same) at c.count_later-later.ensures in
    cut_keeps c.args.point _ _ c.count_later-later.result c.self.inside.room _ _ split c.self.invariant c.truncate.ensures.items c.truncate.ensures.capacity

pub returns-clause-points : goal.returns-clause-points
returns-clause-points c =
    let same : to_z w64 (of_z w64 c.args.point) ≡ c.args.point = to_z-of_z w64 c.args.point c.ranges.point in
    let split : AreLaterBelow c.args.point c.self.inside.points.items c.count_later-later.result = simp (c.deref.ensures.value, same) at c.count_later-later.ensures in
    ap reverse c.truncate.ensures.items ∙ cut c.args.point _ c.count_later-later.result split ∙ ap (λ q. later_than c.args.point q.points) c.self.view_is
