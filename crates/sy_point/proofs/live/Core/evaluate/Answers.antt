use Rattle.std.proofs.Common.{◌≡◌, ◌+ℤ◌, ℕ, ℤ, suc, pos, List, w64, to_z, of_z, sym, ◌∙◌, ap, subst}
use Rattle.sy_core.specs.declared.happening.Happening.{Happening}
use Rattle.sy_core.specs.declared.kind.Target.TheVariants as T
use Rattle.sy_quiet.specs.Exactly.{HasExactly}
use Rattle.sy_quiet.proofs.States.{next_point}
use Rattle.sy_queue.specs.Deadlines.{later_than}
use Rattle.sy_atoms.proofs.Dates.{dated_is_passed, next_is_passed}
use Rattle.sy_present.specs.Standing.{IsEvaluated, StandsFor as PresentStands, has_fired}
use Rattle.sy_point.specs.Standing.{StandsFor}
use Rattle.sy_point.specs.Machine.Known.{AreKnown, date_values}
use Rattle.sy_point.proofs.DatesOn.{known_goes_on}
use Rattle.sy_point.proofs.live.Core.evaluate.Goals as goal

evaluated_at : (c : goal.After-queue_dates) (narrative : List Happening) (n : ℕ) → StandsFor c.args.self.now c.args.deed.now narrative n → HasExactly narrative (c.args.deed.now.start +ℤ pos n) c.args.at.now → IsEvaluated c.evaluate-eventful.new.self c.evaluate-eventful.result c.args.deed.now narrative n
evaluated_at c narrative n stands exact =
    let at : to_z w64 (of_z w64 c.args.self.now.point) ≡ c.args.deed.now.start +ℤ pos n = dated_is_passed c.args.deed.now.unit c.args.self.now.point c.requires.dated ∙ stands.at_point in
    c.evaluate-eventful.ensures.evaluated narrative n stands.present at (subst (λ p. HasExactly narrative p c.args.at.now) (sym at) exact)

pub returns-clause-next : goal.returns-clause-next
returns-clause-next c = λ narrative n stands exact.
    let deed = c.args.deed.now in
    let point : ℤ = c.args.self.now.point in
    let bits = c.args.self.now.queued.items in
    let values = date_values deed narrative (suc n) in
    let passes = dated_is_passed deed.unit point c.requires.dated in
    let next = next_is_passed deed.unit point c.requires.dated in
    let evaluated = evaluated_at c narrative n stands exact in
    let same = c.queue_dates.ensures.same in
    let popped = c.pop_through.ensures.points ∙ ap (λ p. later_than p c.args.self.now.queue.points) passes in
    let known =
    subst (λ points. AreKnown bits points (to_z w64 (of_z w64 (to_z w64 (of_z w64 point) +ℤ pos 1))) values 0) (sym popped)
    (subst (λ p. AreKnown bits (later_than point c.args.self.now.queue.points) p values 0) (sym next) (known_goes_on deed narrative n c.args.self.now stands.dates)) in
    record {
      at_point = same.point ∙ (next ∙ (ap (λ p. p +ℤ pos 1) stands.at_point ∙ sym (next_point deed.start n)));
      present = subst (λ present. PresentStands present deed narrative (suc n)) (sym same.present) evaluated.stands;
      fresh = same.fresh ∙ evaluated.eventful;
      dates = c.queue_dates.ensures.known deed narrative (suc n) evaluated.stands c.requires.made.terms known;
    }

pub returns-clause-happened : goal.returns-clause-happened
returns-clause-happened c = λ narrative n stands exact kind i p is.
    ap (λ present. has_fired present kind (T.Position i)) c.queue_dates.ensures.same.present
    ∙ (evaluated_at c narrative n stands exact).happened kind i p is
