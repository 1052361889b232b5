use Rattle.std.proofs.Common.{rules, ◌≡◌, ◌<◌, ◌^◌, ◌+ℤ◌, ◌≤ℤ◌, ℤ, pos, false, [], length, replicate, w64, to_z, of_z, sym, ◌∙◌, ap, subst, arith}
use Rattle.std.proofs.lemmas.Int.{ints}
use Rattle.std.proofs.lemmas.List.{length-replicate}
use Rattle.sy_core.specs.Wakes.{dates_of_deed}
use Rattle.sy_atoms.proofs.Dates.{dated_is_passed}
use Rattle.sy_present.specs.Standing.{IsMadeFor as PresentMade, StandsFor as PresentStands, last_point}
use Rattle.sy_point.specs.Machine.Known.{AreKnown, date_values}
use Rattle.sy_point.proofs.DatesOn.{none_known}
use Rattle.sy_point.proofs.live.Core.new.Goals as goal

pub overflow_cast-terms : goal.overflow_cast-terms
overflow_cast-terms c =
    let deed = c.args.deed.now in
    let terms : c.terms-terms.result ≡ length (dates_of_deed deed) = c.terms-terms.ensures deed [] 0 (c.in_ok-present.ensures.start []) in
    let few : length (dates_of_deed deed) < 2 ^ 32 = c.requires.limits.dates in
    search rules

at_start : (start : ℤ) → start ≡ start +ℤ pos 0
at_start start = omega (arith, ints)

same_le : (a b c : ℤ) → a ≡ c → b ≡ c → a ≤ℤ b
same_le a b c e f = omega (arith, ints, e, f)

pub returns-clause-start : goal.returns-clause-start
returns-clause-start c = λ narrative.
    let deed = c.args.deed.now in
    let start : ℤ = to_z w64 (of_z w64 deed.start) in
    let present = c.in_ok-present.ensures.start narrative in
    let terms : c.terms-terms.result ≡ length (dates_of_deed deed) = c.terms-terms.ensures deed narrative 0 present in
    let same = c.queue_dates.ensures.same in
    let bits : c.in_ok-vec.field-0.items ≡ replicate c.terms-terms.result false = c.in_ok-vec.ensures.items_if_clones_equal (λ y h. h) in
    let many : length c.in_ok-vec.field-0.items ≡ length (dates_of_deed deed) = ap length bits ∙ (length-replicate c.terms-terms.result false ∙ terms) in
    let points : c.in_ok-new.field-0.points ≡ [] = ap (λ q. q.points) c.in_ok-new.ensures in
    let known =
    subst (λ items. AreKnown items c.in_ok-new.field-0.points start (date_values deed narrative 0) 0) (sym bits)
    (subst (λ ps. AreKnown (replicate c.terms-terms.result false) ps start (date_values deed narrative 0) 0) (sym points) (none_known c.terms-terms.result start (date_values deed narrative 0))) in
    record {
      at_point = same.point ∙ (dated_is_passed deed.unit deed.start c.requires.parts.start_dated ∙ at_start deed.start);
      present = subst (λ present. PresentStands present deed narrative 0) (sym same.present) present;
      fresh = same.fresh;
      dates = c.queue_dates.ensures.known deed narrative 0 present many known;
    }

pub returns-clause-made : goal.returns-clause-made
returns-clause-made c =
    let deed = c.args.deed.now in
    let terms : c.terms-terms.result ≡ length (dates_of_deed deed) = c.terms-terms.ensures deed [] 0 (c.in_ok-present.ensures.start []) in
    let same = c.queue_dates.ensures.same in
    let bits : c.in_ok-vec.field-0.items ≡ replicate c.terms-terms.result false = c.in_ok-vec.ensures.items_if_clones_equal (λ y h. h) in
    record {
      present = subst (λ present. PresentMade present deed) (sym same.present) c.in_ok-present.ensures.made;
      terms = same.terms ∙ (ap length bits ∙ (length-replicate c.terms-terms.result false ∙ terms));
      room = same.room ∙ (ap (λ q. q.room) c.in_ok-new.ensures ∙ terms);
      spare = c.queue_dates.ensures.spare;
      behind = same_le _ _ deed.start (ap last_point same.present ∙ c.in_ok-present.ensures.point) (same.point ∙ dated_is_passed deed.unit deed.start c.requires.parts.start_dated);
    }
