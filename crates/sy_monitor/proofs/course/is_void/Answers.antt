use Rattle.std.proofs.Common.{◌≡◌, ◌∙◌, true, false, refl, to_z, of_z, w64}
use Rattle.std.proofs.lemmas.Int.{to_z-of_z}
use Rattle.sy_words.specs.declared.kind.Kind.TheVariants.{Exerted}
use Rattle.sy_monitor.proofs.AtPoint.{void_is}
use Rattle.sy_monitor.proofs.course.is_void.Goals as goal

pub returns-then-is_asked : goal.returns-then-is_asked
returns-then-is_asked c = λ deed n p there tells at.
    let same : to_z w64 (of_z w64 c.args.point) ≡ c.args.point = to_z-of_z w64 c.args.point c.ranges.point in
    void_is c.args.story.now.happenings (to_z w64 (of_z w64 c.args.point)) c.args.number deed n true c.happened.result c.if-is_asked.ensures
    (c.happened.ensures ∙ tells Exerted c.args.number p there) (same ∙ at)

pub returns-else-is_asked : goal.returns-else-is_asked
returns-else-is_asked c = λ deed n p there tells at.
    let same : to_z w64 (of_z w64 c.args.point) ≡ c.args.point = to_z-of_z w64 c.args.point c.ranges.point in
    c.if-is_asked.false
    ∙ void_is c.args.story.now.happenings (to_z w64 (of_z w64 c.args.point)) c.args.number deed n false _ c.if-is_asked.ensures refl (same ∙ at)
