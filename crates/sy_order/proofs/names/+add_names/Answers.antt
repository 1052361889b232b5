use Rattle.std.proofs.Common.{◌++◌, sym, ◌∙◌, ap}
use Rattle.std.specs.List.{flat_map}
use Rattle.sy_core.specs.Mentions.{names_of}
use Rattle.sy_order.proofs.Parts.{names_of-parts, all_added}
use Rattle.sy_order.proofs.names.+add_names.Goals as goal

pub returns-after-loop-part : goal.returns-after-loop-part
returns-after-loop-part t c =
    all_added names_of c.as_slice-part-items.result.now c.loop-part.part-index c.loop-part.names _ c.loop-part-test.false c.loop-part.invariant
    ∙ ap (λ l. c.args.names.now ++ l) (ap (flat_map names_of) c.as_slice-part-items.ensures ∙ sym (names_of-parts c.args.prop.now c.in-All.parts c.in-All.is))
