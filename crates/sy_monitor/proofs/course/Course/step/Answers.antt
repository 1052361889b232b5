use Rattle.std.proofs.Common.{◌≡◌, ◌++◌, ◌+ℤ◌, pos, suc, sym, ◌∙◌, ap, subst}
use Rattle.sy_base.specs.Points.{IsDated}
use Rattle.sy_core.specs.Chronicle.{chronicle, moment_at}
use Rattle.sy_core.specs.Tables.{is_violated, is_void, marks_at}
use Rattle.sy_quiet.specs.Exactly.{HasExactly}
use Rattle.sy_atoms.proofs.Dates.{dated_is_passed}
use Rattle.sy_story.specs.Narratives.{happenings_at}
use Rattle.sy_monitor.specs.Machine.Coming.{HasCome}
use Rattle.sy_monitor.proofs.AtPoint.{has_its_own}
use Rattle.sy_monitor.proofs.Marking.{more_marks}
use Rattle.sy_monitor.proofs.Outcomes.{on_ok}
use Rattle.sy_monitor.proofs.course.Course.step.Goals as goal

pub returns-clause-next : goal.returns-clause-next
returns-clause-next g c = λ n come.
    let deed = c.args.deed.now in
    let noted = c.args.story.now.happenings in
    let before = c.args.self.now in
    let moment = moment_at deed noted n in
    let earlier = chronicle deed noted n in
    let dated : IsDated deed.unit c.now-point.result = subst (IsDated deed.unit) (sym c.now-point.ensures.point) c.requires.dated in
    let point = dated_is_passed deed.unit c.now-point.result dated ∙ c.now-point.ensures.stands deed noted n come.stands in
    let at : c.at.result.now ≡ happenings_at (deed.start +ℤ pos n) noted = c.at.ensures ∙ ap (λ p. happenings_at p noted) point in
    let exactly = subst (HasExactly noted (deed.start +ℤ pos n)) (sym at) (has_its_own noted (deed.start +ℤ pos n)) in
    let stands = c.step_point.ensures.next noted n come.stands exactly in
    let tells = c.step_point.ensures.happened noted n come.stands exactly in
    let violations =
    more_marks is_violated deed.positions earlier moment before.violations c.add_violations.new.marks come.violations (c.in_ok-add_violations.ensures moment tells point) in
    on_ok c.add_voids.result
    (c.add_voids.new.marks ≡ before.voids ++ marks_at is_void moment 0 deed.positions)
    (HasCome (record { core = c.step_point.new.self; violations = c.add_violations.new.marks; voids = c.add_voids.new.marks }) deed noted (suc n))
    (λ added. record {
      stands = stands;
      violations = violations;
      voids = more_marks is_void deed.positions earlier moment before.voids c.add_voids.new.marks come.voids added;
    })
    (c.add_voids.ensures n tells point)
