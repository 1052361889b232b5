use Rattle.std.proofs.Common.{ℤ, pos, ◌-ℤ◌, ◌≤ℤ◌, sym, ◌∙◌, ap, subst}
use Rattle.sy_point.specs.Standing.{IsNextWake}
use Rattle.sy_monitor.proofs.NextPoint.{next_of_both}
use Rattle.sy_monitor.proofs.Points.{before_is_passed}
use Rattle.sy_monitor.proofs.course.Course.next_wake.Goals as goal

pub returns : goal.returns
returns c = λ n stands.
    let deed = c.args.deed.now in
    let noted = c.args.story.now.happenings in
    let now = c.now.ensures.stands deed noted n stands in
    let begun : deed.start ≤ℤ c.now.result = subst (λ (p : ℤ). deed.start ≤ℤ p) (sym c.now.ensures.point) c.requires.begun in
    let before = before_is_passed deed.unit deed.start c.now.result c.requires.sound.parts.start_dated begun (record { sfits = c.now.type_inv }) in
    let ordered = c.requires.sound.ordered in
    subst (IsNextWake deed noted n) (sym c.earlier.ensures)
    (next_of_both deed noted n _ (before ∙ ap (λ (p : ℤ). p -ℤ pos 1) now) c.next_wake.result c.next_after.result
    (c.next_wake.ensures.later deed noted n ordered stands)
    (λ m untold not_before. c.next_wake.ensures.none deed noted n m ordered stands untold not_before)
    (λ m none is. c.next_wake.ensures.wakes deed noted n m ordered stands none is)
    c.next_after.ensures)
