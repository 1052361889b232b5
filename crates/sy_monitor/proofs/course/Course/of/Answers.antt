use Rattle.std.proofs.Common.{◌≡◌, ℤ, pos, ◌+ℤ◌, ◌-ℤ◌, ◌≤ℤ◌, ◌+◌, ◌≤◌, suc, nat_abs, refl, sym, ◌∙◌, ap, subst, to_z, of_z, w64}
use Rattle.std.proofs.lemmas.Int.{to_z-of_z}
use Rattle.sy_base.specs.Points.{IsDated}
use Rattle.sy_atoms.proofs.Dates.{dated_is_passed, next_is_passed}
use Rattle.sy_point.specs.Counting.{wakes}
use Rattle.sy_point.specs.Standing.{next_point}
use Rattle.sy_monitor.specs.Machine.Coming.{HasCome}
use Rattle.sy_monitor.proofs.UnderWay.{at_start, is_dated, goes_on, taken_within, nearer, not_past, arrives, all_taken}
use Rattle.sy_monitor.proofs.course.Course.of.Goals as goal

pub loop-point-init : goal.loop-point-init
loop-point-init g c =
    let noted = c.args.story.now.happenings in
    let same : to_z w64 (of_z w64 c.args.last) ≡ c.args.last = to_z-of_z w64 c.args.last c.ranges.last in
    at_start c.args.deed.now noted (to_z w64 (of_z w64 c.args.last)) c.args.steps.now c.in_ok-course.course c.args.steps.now
    (subst (λ (p : ℤ). c.args.deed.now.start ≤ℤ p) (sym same) c.requires.begun) c.in_ok-course.ensures.made (c.in_ok-course.ensures.start noted) refl

pub step-requires-clause-made : goal.step-requires-clause-made
step-requires-clause-made g c = c.skip_to.ensures.made c.args.deed.now c.loop-point.invariant.made

pub step-requires-clause-dated : goal.step-requires-clause-dated
step-requires-clause-dated g c =
    let deed = c.args.deed.now in
    let l = c.loop-point in
    let last = to_z w64 (of_z w64 c.args.last) in
    let same : last ≡ c.args.last = to_z-of_z w64 c.args.last c.ranges.last in
    let dated = subst (IsDated deed.unit) (sym same) c.requires.dated in
    let next = c.in-Some.ensures l.invariant.passed l.invariant.come.stands in
    let is = is_dated deed c.args.story.now.happenings last c.args.steps.now l.course l.steps l.invariant c.in-Some.point next deed.unit c.requires.sound.parts.start_dated dated in
    subst (IsDated deed.unit) (sym (c.skip_to.ensures.point ∙ dated_is_passed deed.unit c.in-Some.point is)) is

pub loop-point-smaller : goal.loop-point-smaller
loop-point-smaller g c =
    let deed = c.args.deed.now in
    let l = c.loop-point in
    let last = to_z w64 (of_z w64 c.args.last) in
    let same : last ≡ c.args.last = to_z-of_z w64 c.args.last c.ranges.last in
    let dated = subst (IsDated deed.unit) (sym same) c.requires.dated in
    let next = c.in-Some.ensures l.invariant.passed l.invariant.come.stands in
    let is = is_dated deed c.args.story.now.happenings last c.args.steps.now l.course l.steps l.invariant c.in-Some.point next deed.unit c.requires.sound.parts.start_dated dated in
    nearer deed c.args.story.now.happenings last c.args.steps.now l.course l.steps l.invariant c.in-Some.point next (next_point c.step.new.self.core)
    (c.in_ok-step.ensures.point ∙ ap (λ (p : ℤ). p +ℤ pos 1) (c.skip_to.ensures.point ∙ dated_is_passed deed.unit c.in-Some.point is))

pub loop-point-preserved : goal.loop-point-preserved
loop-point-preserved g c =
    let deed = c.args.deed.now in
    let noted = c.args.story.now.happenings in
    let l = c.loop-point in
    let last = to_z w64 (of_z w64 c.args.last) in
    let same : last ≡ c.args.last = to_z-of_z w64 c.args.last c.ranges.last in
    let dated = subst (IsDated deed.unit) (sym same) c.requires.dated in
    let next = c.in-Some.ensures l.invariant.passed l.invariant.come.stands in
    let is = is_dated deed noted last c.args.steps.now l.course l.steps l.invariant c.in-Some.point next deed.unit c.requires.sound.parts.start_dated dated in
    let passed = dated_is_passed deed.unit c.in-Some.point is in
    goes_on deed noted last c.args.steps.now l.course l.steps l.invariant c.in-Some.point next c.skip_to.new.self c.step.new.self c.step.new.steps
    (λ n m come at none. c.skip_to.ensures.come deed noted n m c.requires.sound come (passed ∙ at) none)
    (λ n come. c.in_ok-step.ensures.next n come) c.in_ok-step.ensures.made c.in_ok-step.ensures.ticks

pub returns-in_err-step-clause-ticks : goal.returns-in_err-step-clause-ticks
returns-in_err-step-clause-ticks g c =
    let deed = c.args.deed.now in
    let noted = c.args.story.now.happenings in
    let l = c.loop-point in
    let last = to_z w64 (of_z w64 c.args.last) in
    let same : last ≡ c.args.last = to_z-of_z w64 c.args.last c.ranges.last in
    let next = c.in-Some.ensures l.invariant.passed l.invariant.come.stands in
    subst (λ (p : ℤ). c.step.new.steps ≤ c.args.steps.now + wakes deed noted (suc (nat_abs (p -ℤ deed.start)))) same
    (taken_within deed noted last c.args.steps.now l.course l.steps l.invariant c.in-Some.point next c.step.new.steps c.in_err-step.ensures.ticks)

pub skip_to-requires-2 : goal.skip_to-requires-2
skip_to-requires-2 g c =
    let deed = c.args.deed.now in
    let noted = c.args.story.now.happenings in
    let l = c.loop-point in
    let last = to_z w64 (of_z w64 c.args.last) in
    let same : last ≡ c.args.last = to_z-of_z w64 c.args.last c.ranges.last in
    let after : (last +ℤ pos 1) ≡ to_z w64 (of_z w64 (last +ℤ pos 1)) =
    ap (λ (p : ℤ). p +ℤ pos 1) same ∙ sym (next_is_passed deed.unit c.args.last c.requires.dated) in
    let begins = subst (λ (p : ℤ). deed.start ≤ℤ p) (sym same) c.requires.begun in
    let none = c.in_default.ensures l.invariant.passed l.invariant.come.stands in
    subst (λ (p : ℤ). next_point l.course.core ≤ℤ p) after (not_past deed noted last c.args.steps.now l.course l.steps l.invariant begins none)

pub returns-clause-come : goal.returns-clause-come
returns-clause-come g c =
    let deed = c.args.deed.now in
    let noted = c.args.story.now.happenings in
    let l = c.loop-point in
    let last = to_z w64 (of_z w64 c.args.last) in
    let same : last ≡ c.args.last = to_z-of_z w64 c.args.last c.ranges.last in
    let after : (last +ℤ pos 1) ≡ to_z w64 (of_z w64 (last +ℤ pos 1)) =
    ap (λ (p : ℤ). p +ℤ pos 1) same ∙ sym (next_is_passed deed.unit c.args.last c.requires.dated) in
    let begins = subst (λ (p : ℤ). deed.start ≤ℤ p) (sym same) c.requires.begun in
    let none = c.in_default.ensures l.invariant.passed l.invariant.come.stands in
    subst (λ (p : ℤ). HasCome c.skip_to-2.new.self deed noted (suc (nat_abs (p -ℤ deed.start)))) same
    (arrives deed noted last c.args.steps.now l.course l.steps l.invariant begins none c.skip_to-2.new.self
    (λ n m come at quiet. c.skip_to-2.ensures.come deed noted n m c.requires.sound come (sym after ∙ at) quiet))

pub returns-clause-made : goal.returns-clause-made
returns-clause-made g c = c.skip_to-2.ensures.made c.args.deed.now c.loop-point.invariant.made

pub returns-clause-ticks : goal.returns-clause-ticks
returns-clause-ticks g c =
    let deed = c.args.deed.now in
    let noted = c.args.story.now.happenings in
    let l = c.loop-point in
    let last = to_z w64 (of_z w64 c.args.last) in
    let same : last ≡ c.args.last = to_z-of_z w64 c.args.last c.ranges.last in
    let begins = subst (λ (p : ℤ). deed.start ≤ℤ p) (sym same) c.requires.begun in
    let none = c.in_default.ensures l.invariant.passed l.invariant.come.stands in
    subst (λ (p : ℤ). l.steps ≤ c.args.steps.now + wakes deed noted (suc (nat_abs (p -ℤ deed.start)))) same
    (all_taken deed noted last c.args.steps.now l.course l.steps l.invariant begins none)
