use Rattle.std.proofs.Common.{sym, ◌∙◌, ap}
use Rattle.std.specs.List.{list_any}
use Rattle.sy_core.specs.Mentions.{has_holds}
use Rattle.sy_core.proofs.Mentions.{has_holds-parts, found_at, none_left}
use Rattle.sy_core.proofs.remedy.+has_holds.Goals as goal

pub returns-then-has_holds : goal.returns-then-has_holds
returns-then-has_holds t c =
    found_at has_holds c.as_slice-part-items.result.now c.loop-part.part-index c.part-item.result _ c.loop-part-test.true c.part-item.is (sym c.if-has_holds.ensures) c.loop-part.invariant
    ∙ (ap (list_any has_holds) c.as_slice-part-items.ensures ∙ sym (has_holds-parts c.args.prop.now c.in-All.parts c.in-All.is))

pub returns-after-loop-part : goal.returns-after-loop-part
returns-after-loop-part t c =
    none_left has_holds c.as_slice-part-items.result.now c.loop-part.part-index _ c.loop-part-test.false c.loop-part.invariant
    ∙ (ap (list_any has_holds) c.as_slice-part-items.ensures ∙ sym (has_holds-parts c.args.prop.now c.in-All.parts c.in-All.is))
