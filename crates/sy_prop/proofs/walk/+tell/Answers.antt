use Rattle.std.proofs.Common.{◌+◌, ◌≤◌, [], ◌∷◌, length, arith, sym, ◌∙◌, ap, rules, length-append}
use Rattle.std.specs.List.{flat_map}
use Rattle.sy_core.specs.declared.proposition.Prop.TheFolds.{the_lemmas}
use Rattle.sy_prop.specs.Machine.Changes.{stay, changes_of, changed_from}
use Rattle.sy_prop.specs.Machine.Tellings.{step_of}
use Rattle.sy_prop.proofs.Changing.{part_changes, changes-all, changes-any, changes-const, changes-not, stay_changes, and_skips, parts_begin, part_room, part_goes, parts_end}
use Rattle.sy_prop.proofs.Sound.{sound_part_of_all, sound_part_of_any, sound_end_of_within, sound_start_of_occurs, sound_end_of_occurs}
use Rattle.sy_prop.proofs.walk.+tell.Goals as goal

pub loop-part-init : goal.loop-part-init
loop-part-init t c =
    let step = step_of c.args.telling.now in
    let r = parts_begin step c.as_slice-part-items.result.now c.args.at c.args.nodes.now c.args.prop.now (ap (changes_of step) c.in-All.is ∙ (changes-all step c.in-All.parts ∙ ap (λ ps. stay ∷ flat_map (part_changes step) ps) (sym c.as_slice-part-items.ensures))) c.requires.room in
    record { room = r.0; count = r.1; rest = r.2 }

pub tell-next-requires : goal.tell-next-requires
tell-next-requires t c =
    let l = c.loop-part.invariant in
    let fits = part_room (step_of c.args.telling.now) c.as_slice-part-items.result.now c.loop-part.part-index c.part-item.result c.loop-part.next c.loop-part.nodes c.loop-part-test.true c.part-item.is l.room in (
      search (rules, the_lemmas),
      (omega (arith, fits), sound_part_of_all c.args.telling.now.deed.now c.args.prop.now c.in-All.parts c.as_slice-part-items.result.now c.loop-part.part-index c.part-item.result c.requires.sound c.in-All.is c.as_slice-part-items.ensures c.loop-part-test.true c.part-item.is),
    )

pub overflow_add-next-in-loop-part : goal.overflow_add-next-in-loop-part
overflow_add-next-in-loop-part t c =
    let l = c.loop-part.invariant in
    let fits = part_room (step_of c.args.telling.now) c.as_slice-part-items.result.now c.loop-part.part-index c.part-item.result c.loop-part.next c.loop-part.nodes c.loop-part-test.true c.part-item.is l.room in
    let within : c.tell-next.result + 1 ≤ length c.loop-part.nodes = omega (arith, fits, c.tell-next.ensures.count) in
    search rules

pub loop-part-preserved : goal.loop-part-preserved
loop-part-preserved t c =
    let l = c.loop-part.invariant in
    let r = part_goes (step_of c.args.telling.now) c.as_slice-part-items.result.now c.loop-part.part-index c.part-item.result c.loop-part.next c.tell-next.result _ c.loop-part.nodes c.tell-next.new.nodes _ c.loop-part-test.true c.part-item.is l.room l.count l.rest c.tell-next.ensures.count c.tell-next.ensures.nodes in
    record { room = r.0; count = r.1; rest = r.2 }

pub returns-after-loop-part-clause-count : goal.returns-after-loop-part-clause-count
returns-after-loop-part-clause-count t c =
    let step = step_of c.args.telling.now in
    let l = c.loop-part.invariant in
    (parts_end step c.as_slice-part-items.result.now c.loop-part.part-index c.args.at c.loop-part.next c.loop-part.nodes c.args.nodes.now c.args.prop.now c.loop-part-test.false (ap (changes_of step) c.in-All.is ∙ (changes-all step c.in-All.parts ∙ ap (λ ps. stay ∷ flat_map (part_changes step) ps) (sym c.as_slice-part-items.ensures))) l.count l.rest).0

pub returns-after-loop-part-clause-nodes : goal.returns-after-loop-part-clause-nodes
returns-after-loop-part-clause-nodes t c =
    let step = step_of c.args.telling.now in
    let l = c.loop-part.invariant in
    (parts_end step c.as_slice-part-items.result.now c.loop-part.part-index c.args.at c.loop-part.next c.loop-part.nodes c.args.nodes.now c.args.prop.now c.loop-part-test.false (ap (changes_of step) c.in-All.is ∙ (changes-all step c.in-All.parts ∙ ap (λ ps. stay ∷ flat_map (part_changes step) ps) (sym c.as_slice-part-items.ensures))) l.count l.rest).1

pub loop-part-2-init : goal.loop-part-2-init
loop-part-2-init t c =
    let step = step_of c.args.telling.now in
    let r = parts_begin step c.as_slice-part-items-in-Any.result.now c.args.at c.args.nodes.now c.args.prop.now (ap (changes_of step) c.in-Any.is ∙ (changes-any step c.in-Any.parts ∙ ap (λ ps. stay ∷ flat_map (part_changes step) ps) (sym c.as_slice-part-items-in-Any.ensures))) c.requires.room in
    record { room = r.0; count = r.1; rest = r.2 }

pub tell-next-requires-in-loop-part-2 : goal.tell-next-requires-in-loop-part-2
tell-next-requires-in-loop-part-2 t c =
    let l = c.loop-part-2.invariant in
    let fits = part_room (step_of c.args.telling.now) c.as_slice-part-items-in-Any.result.now c.loop-part-2.part-index c.part-item-in-loop-part-2.result c.loop-part-2.next c.loop-part-2.nodes c.loop-part-2-test.true c.part-item-in-loop-part-2.is l.room in (
      search (rules, the_lemmas),
      (omega (arith, fits), sound_part_of_any c.args.telling.now.deed.now c.args.prop.now c.in-Any.parts c.as_slice-part-items-in-Any.result.now c.loop-part-2.part-index c.part-item-in-loop-part-2.result c.requires.sound c.in-Any.is c.as_slice-part-items-in-Any.ensures c.loop-part-2-test.true c.part-item-in-loop-part-2.is),
    )

pub overflow_add-next-in-loop-part-2 : goal.overflow_add-next-in-loop-part-2
overflow_add-next-in-loop-part-2 t c =
    let l = c.loop-part-2.invariant in
    let fits = part_room (step_of c.args.telling.now) c.as_slice-part-items-in-Any.result.now c.loop-part-2.part-index c.part-item-in-loop-part-2.result c.loop-part-2.next c.loop-part-2.nodes c.loop-part-2-test.true c.part-item-in-loop-part-2.is l.room in
    let within : c.tell-next-in-loop-part-2.result + 1 ≤ length c.loop-part-2.nodes = omega (arith, fits, c.tell-next-in-loop-part-2.ensures.count) in
    search rules

pub loop-part-2-preserved : goal.loop-part-2-preserved
loop-part-2-preserved t c =
    let l = c.loop-part-2.invariant in
    let r = part_goes (step_of c.args.telling.now) c.as_slice-part-items-in-Any.result.now c.loop-part-2.part-index c.part-item-in-loop-part-2.result c.loop-part-2.next c.tell-next-in-loop-part-2.result _ c.loop-part-2.nodes c.tell-next-in-loop-part-2.new.nodes _ c.loop-part-2-test.true c.part-item-in-loop-part-2.is l.room l.count l.rest c.tell-next-in-loop-part-2.ensures.count c.tell-next-in-loop-part-2.ensures.nodes in
    record { room = r.0; count = r.1; rest = r.2 }

pub returns-after-loop-part-2-clause-count : goal.returns-after-loop-part-2-clause-count
returns-after-loop-part-2-clause-count t c =
    let step = step_of c.args.telling.now in
    let l = c.loop-part-2.invariant in
    (parts_end step c.as_slice-part-items-in-Any.result.now c.loop-part-2.part-index c.args.at c.loop-part-2.next c.loop-part-2.nodes c.args.nodes.now c.args.prop.now c.loop-part-2-test.false (ap (changes_of step) c.in-Any.is ∙ (changes-any step c.in-Any.parts ∙ ap (λ ps. stay ∷ flat_map (part_changes step) ps) (sym c.as_slice-part-items-in-Any.ensures))) l.count l.rest).0

pub returns-after-loop-part-2-clause-nodes : goal.returns-after-loop-part-2-clause-nodes
returns-after-loop-part-2-clause-nodes t c =
    let step = step_of c.args.telling.now in
    let l = c.loop-part-2.invariant in
    (parts_end step c.as_slice-part-items-in-Any.result.now c.loop-part-2.part-index c.args.at c.loop-part-2.next c.loop-part-2.nodes c.args.nodes.now c.args.prop.now c.loop-part-2-test.false (ap (changes_of step) c.in-Any.is ∙ (changes-any step c.in-Any.parts ∙ ap (λ ps. stay ∷ flat_map (part_changes step) ps) (sym c.as_slice-part-items-in-Any.ensures))) l.count l.rest).1

pub of_within-requires-clause-to : goal.of_within-requires-clause-to
of_within-requires-clause-to t c =
    sound_end_of_within c.args.telling.now.deed.now c.in-Within.ev c.in-Within.from c.in-Within.to (rw c.in-Within.is at c.requires.sound)

pub of_occurs-requires-clause-from : goal.of_occurs-requires-clause-from
of_occurs-requires-clause-from t c =
    sound_start_of_occurs c.args.telling.now.deed.now c.in-Occurs.situation c.in-Occurs.from c.in-Occurs.to (rw c.in-Occurs.is at c.requires.sound)

pub of_occurs-requires-clause-to : goal.of_occurs-requires-clause-to
of_occurs-requires-clause-to t c =
    sound_end_of_occurs c.args.telling.now.deed.now c.in-Occurs.situation c.in-Occurs.from c.in-Occurs.to (rw c.in-Occurs.is at c.requires.sound)

pub returns-in-Const-clause-nodes : goal.returns-in-Const-clause-nodes
returns-in-Const-clause-nodes t c =
    let step = step_of c.args.telling.now in
    sym (stay_changes c.args.at c.args.nodes.now)
    ∙ ap (λ l. changed_from c.args.at l c.args.nodes.now) (sym (ap (changes_of step) c.in-Const.is ∙ changes-const step c.in-Const.field-0))

pub returns-in-Not-clause-count : goal.returns-in-Not-clause-count
returns-in-Not-clause-count t c =
    let step = step_of c.args.telling.now in
    let whole = ap length (ap (changes_of step) c.in-Not.is ∙ changes-not step c.in-Not.part) in
    let part = ap (λ p. length (changes_of step p)) c.get.ensures in
    omega (arith, c.tell.ensures.count, whole, part, length-append (changes_of step c.in-Not.part) (stay ∷ []))

pub returns-in-Not-clause-nodes : goal.returns-in-Not-clause-nodes
returns-in-Not-clause-nodes t c =
    let step = step_of c.args.telling.now in
    let whole = ap (changes_of step) c.in-Not.is ∙ changes-not step c.in-Not.part in
    let size = ap length whole in
    c.tell.ensures.nodes
    ∙ (ap (λ p. changed_from c.args.at (changes_of step p) c.args.nodes.now) c.get.ensures
    ∙ (and_skips c.args.at (changes_of step c.in-Not.part) c.args.nodes.now (omega (arith, c.requires.room, size, length-append (changes_of step c.in-Not.part) (stay ∷ [])))
    ∙ ap (λ l. changed_from c.args.at l c.args.nodes.now) (sym whole)))
