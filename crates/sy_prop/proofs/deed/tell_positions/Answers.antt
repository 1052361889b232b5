use Rattle.std.proofs.Common.{length, refl, ◌∙◌, ap, arith}
use Rattle.std.specs.List.{flat_map, list_all}
use Rattle.sy_core.specs.Soundness.{is_sound_position}
use Rattle.sy_atoms.proofs.Passing.{passes_at}
use Rattle.sy_prop.specs.Machine.Changes.{changed}
use Rattle.sy_prop.specs.Machine.Deeds.{changes_of_position}
use Rattle.sy_prop.specs.Machine.Tellings.{step_of}
use Rattle.sy_prop.proofs.Changing.{item_room, item_goes, items_end}
use Rattle.sy_prop.proofs.deed.tell_positions.Goals as goal

pub loop-position-init : goal.loop-position-init
loop-position-init c =
    let each = changes_of_position (step_of c.args.telling.now) in
    let size = ap (λ ps. length (flat_map each ps)) c.items-position-items.ensures in
    record { room = omega (arith, c.requires.room, size); count = omega arith; rest = refl }

pub tell_position-next-requires-clause-room : goal.tell_position-next-requires-clause-room
tell_position-next-requires-clause-room c =
    item_room (changes_of_position (step_of c.args.telling.now)) c.items-position-items.result.now c.loop-position.position-index c.position-item.result c.loop-position.next c.loop-position.nodes c.loop-position-test.true c.position-item.is c.loop-position.invariant.room

pub tell_position-next-requires-clause-sound : goal.tell_position-next-requires-clause-sound
tell_position-next-requires-clause-sound c =
    let passes = is_sound_position c.args.telling.now.deed.now in
    passes_at passes c.items-position-items.result.now c.loop-position.position-index c.position-item.result (ap (list_all passes) c.items-position-items.ensures ∙ c.requires.sound) c.loop-position-test.true c.position-item.is

pub loop-position-preserved : goal.loop-position-preserved
loop-position-preserved c =
    let l = c.loop-position.invariant in
    let r = item_goes (changes_of_position (step_of c.args.telling.now)) c.items-position-items.result.now c.loop-position.position-index c.position-item.result c.loop-position.next c.tell_position-next.result _ c.loop-position.nodes c.tell_position-next.new.nodes _ c.loop-position-test.true c.position-item.is l.room l.count l.rest c.tell_position-next.ensures.count c.tell_position-next.ensures.nodes in
    record { room = r.0; count = r.1; rest = r.2 }

pub returns-clause-count : goal.returns-clause-count
returns-clause-count c =
    let l = c.loop-position.invariant in
    let each = changes_of_position (step_of c.args.telling.now) in
    (items_end each c.items-position-items.result.now c.loop-position.position-index c.loop-position.next _ c.loop-position.nodes _ c.loop-position-test.false l.count l.rest).0
    ∙ ap (λ ps. length (flat_map each ps)) c.items-position-items.ensures

pub returns-clause-nodes : goal.returns-clause-nodes
returns-clause-nodes c =
    let l = c.loop-position.invariant in
    let each = changes_of_position (step_of c.args.telling.now) in
    (items_end each c.items-position-items.result.now c.loop-position.position-index c.loop-position.next _ c.loop-position.nodes _ c.loop-position-test.false l.count l.rest).1
    ∙ ap (λ ps. changed (flat_map each ps) c.args.nodes.now) c.items-position-items.ensures
