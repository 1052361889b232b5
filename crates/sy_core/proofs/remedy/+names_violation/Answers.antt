use Rattle.std.proofs.Common.{sym, ◌∙◌, ap}
use Rattle.std.specs.List.{list_any}
use Rattle.sy_core.proofs.Mentions.{is_named, is_named-parts, found_at, none_left}
use Rattle.sy_core.proofs.remedy.+names_violation.Goals as goal

pub returns-then-names_violation : goal.returns-then-names_violation
returns-then-names_violation t c =
    found_at (is_named c.args.violated) c.as_slice-part-items.result.now c.loop-part.part-index c.part-item.result _ c.loop-part-test.true c.part-item.is (sym c.if-names_violation.ensures) c.loop-part.invariant
    ∙ (ap (list_any (is_named c.args.violated)) c.as_slice-part-items.ensures ∙ sym (is_named-parts c.args.violated c.args.prop.now c.in-All.parts c.in-All.is))

pub returns-after-loop-part : goal.returns-after-loop-part
returns-after-loop-part t c =
    none_left (is_named c.args.violated) c.as_slice-part-items.result.now c.loop-part.part-index _ c.loop-part-test.false c.loop-part.invariant
    ∙ (ap (list_any (is_named c.args.violated)) c.as_slice-part-items.ensures ∙ sym (is_named-parts c.args.violated c.args.prop.now c.in-All.parts c.in-All.is))
