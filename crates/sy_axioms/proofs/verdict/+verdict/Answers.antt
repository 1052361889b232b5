use Rattle.std.proofs.Common.{rules, sym, ◌∙◌, ap, arith}
use Rattle.std.proofs.lemmas.Grind.{common_steps}
use Rattle.sy_core.specs.declared.proposition.Prop.TheFolds.{the_lemmas}
use Rattle.sy_axioms.specs.Machine.Presents.{moment_now, moments_before, verdict_now}
use Rattle.sy_axioms.proofs.Verdicts.{sound_part_of_all, sound_part_of_any, sound_start_of_within, sound_end_of_within, sound_start_of_occurs, sound_end_of_occurs, least_goes_on, greatest_goes_on, lesser-true, greater-false, verdict-all, verdict-any, verdict-within, verdict-occurs}
use Rattle.sy_axioms.proofs.verdict.+verdict.Goals as goal

pub verdict-requires-in-loop-part : goal.verdict-requires-in-loop-part
verdict-requires-in-loop-part t c = (
  search (rules, the_lemmas),
  sound_part_of_all c.args.present.now.deed.now c.args.prop.now c.in-All.parts c.as_slice-part-items.result.now c.loop-part.part-index c.part-item.result c.requires c.in-All.is c.as_slice-part-items.ensures c.loop-part-test.true c.part-item.is,
)

pub verdict-requires-in-loop-part-2 : goal.verdict-requires-in-loop-part-2
verdict-requires-in-loop-part-2 t c = (
  search (rules, the_lemmas),
  sound_part_of_any c.args.present.now.deed.now c.args.prop.now c.in-Any.parts c.as_slice-part-items-in-Any.result.now c.loop-part-2.part-index c.part-item-in-loop-part-2.result c.requires c.in-Any.is c.as_slice-part-items-in-Any.ensures c.loop-part-2-test.true c.part-item-in-loop-part-2.is,
)

pub within-requires-clause-from : goal.within-requires-clause-from
within-requires-clause-from t c =
    sound_start_of_within c.args.present.now.deed.now c.in-Within.ev c.in-Within.from c.in-Within.to (rw c.in-Within.is at c.requires)

pub within-requires-clause-to : goal.within-requires-clause-to
within-requires-clause-to t c =
    sound_end_of_within c.args.present.now.deed.now c.in-Within.ev c.in-Within.from c.in-Within.to (rw c.in-Within.is at c.requires)

pub occurs-requires-clause-from : goal.occurs-requires-clause-from
occurs-requires-clause-from t c =
    sound_start_of_occurs c.args.present.now.deed.now c.in-Occurs.situation c.in-Occurs.from c.in-Occurs.to (rw c.in-Occurs.is at c.requires)

pub occurs-requires-clause-to : goal.occurs-requires-clause-to
occurs-requires-clause-to t c =
    sound_end_of_occurs c.args.present.now.deed.now c.in-Occurs.situation c.in-Occurs.from c.in-Occurs.to (rw c.in-Occurs.is at c.requires)

pub returns-in-Within : goal.returns-in-Within
returns-in-Within t c =
    c.within.ensures
    ∙ sym (ap (verdict_now c.args.present.now) c.in-Within.is
    ∙ verdict-within c.args.present.now.deed.now.unit (moment_now c.args.present.now) (moments_before c.args.present.now) c.in-Within.ev c.in-Within.from c.in-Within.to)

pub returns-in-Occurs : goal.returns-in-Occurs
returns-in-Occurs t c =
    c.occurs.ensures
    ∙ sym (ap (verdict_now c.args.present.now) c.in-Occurs.is
    ∙ verdict-occurs c.args.present.now.deed.now.unit (moment_now c.args.present.now) (moments_before c.args.present.now) c.in-Occurs.situation c.in-Occurs.from c.in-Occurs.to)

pub loop-part-preserved : goal.loop-part-preserved
loop-part-preserved t c =
    least_goes_on (verdict_now c.args.present.now) c.as_slice-part-items.result.now c.loop-part.part-index c.loop-part-test.true c.part-item.result c.part-item.is c.loop-part.least c.verdict-in-loop-part.result c.lesser-least.result _ c.lesser-least.ensures c.verdict-in-loop-part.ensures c.loop-part.invariant

pub loop-part-2-preserved : goal.loop-part-2-preserved
loop-part-2-preserved t c =
    greatest_goes_on (verdict_now c.args.present.now) c.as_slice-part-items-in-Any.result.now c.loop-part-2.part-index c.loop-part-2-test.true c.part-item-in-loop-part-2.result c.part-item-in-loop-part-2.is c.loop-part-2.greatest c.verdict-in-loop-part-2.result c.greater-greatest.result _ c.greater-greatest.ensures c.verdict-in-loop-part-2.ensures c.loop-part-2.invariant

pub returns-after-loop-part : goal.returns-after-loop-part
returns-after-loop-part t c =
    rw c.in-All.is (grind (arith, common_steps, lesser-true, verdict-all c.args.present.now.deed.now.unit (moment_now c.args.present.now) (moments_before c.args.present.now) c.in-All.parts))

pub returns-after-loop-part-2 : goal.returns-after-loop-part-2
returns-after-loop-part-2 t c =
    rw c.in-Any.is (grind (arith, common_steps, greater-false, verdict-any c.args.present.now.deed.now.unit (moment_now c.args.present.now) (moments_before c.args.present.now) c.in-Any.parts))
