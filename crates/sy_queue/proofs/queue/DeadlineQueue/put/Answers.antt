use Rattle.std.proofs.Common.{◌≡◌, ◌<◌, ◌-◌, ℕ, length, to_z, of_z, w64, sym, ap, ◌∙◌, subst, reverse}
use Rattle.std.specs.List.{insert}
use Rattle.std.proofs.lemmas.Int.{to_z-of_z}
use Rattle.sy_queue.specs.Deadlines.{with_point}
use Rattle.sy_queue.specs.Machine.Keeping.{AreLaterBelow}
use Rattle.sy_queue.proofs.Splitting.{inserted}
use Rattle.sy_queue.proofs.Kept.{put_keeps}
use Rattle.sy_queue.proofs.queue.DeadlineQueue.put.Goals as goal

pub invariant_of-self : goal.invariant_of-self
invariant_of-self c =
    let same : to_z w64 (of_z w64 c.args.point) ≡ c.args.point = to_z-of_z w64 c.args.point c.ranges.point in
    let items = c.self.inside.points.items in
    let split : AreLaterBelow c.args.point items c.count_later-place.result = simp (c.deref.ensures.value, same) at c.count_later-place.ensures in
    let is : c.insert.new.self.items ≡ insert items c.count_later-place.result c.args.point = simp (c.unwrap.ensures, same) at c.insert.ensures.items in
    let some : 0 < c.self.inside.room - length items = subst (λ (n : ℕ). 0 < n) (sym (ap (λ q. q.spare) c.self.view_is)) c.requires in
    put_keeps c.args.point items _ c.count_later-place.result c.self.inside.room _ _ split c.self.invariant some is c.insert.ensures.capacity

pub returns-clause-points : goal.returns-clause-points
returns-clause-points c =
    let same : to_z w64 (of_z w64 c.args.point) ≡ c.args.point = to_z-of_z w64 c.args.point c.ranges.point in
    let items = c.self.inside.points.items in
    let split : AreLaterBelow c.args.point items c.count_later-place.result = simp (c.deref.ensures.value, same) at c.count_later-place.ensures in
    let is : c.insert.new.self.items ≡ insert items c.count_later-place.result c.args.point = simp (c.unwrap.ensures, same) at c.insert.ensures.items in
    ap reverse is ∙ inserted c.args.point items c.count_later-place.result split ∙ ap (λ q. with_point c.args.point q.points) c.self.view_is
