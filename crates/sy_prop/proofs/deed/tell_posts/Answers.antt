use Rattle.std.proofs.Common.{length, refl, ◌∙◌, ap, arith}
use Rattle.std.specs.List.{flat_map}
use Rattle.sy_prop.specs.Machine.Changes.{changes_of, changed_from}
use Rattle.sy_prop.specs.Machine.Tellings.{step_of}
use Rattle.sy_prop.proofs.Changing.{item_room, item_goes, items_end}
use Rattle.sy_prop.proofs.deed.tell_posts.Goals as goal

pub loop-post-init : goal.loop-post-init
loop-post-init c =
    let each = changes_of (step_of c.args.telling.now) in
    let size = ap (λ ps. length (flat_map each ps)) c.items-post-items.ensures in
    record { room = omega (arith, c.requires.room, size); count = refl; rest = refl }

pub tell-next-requires-clause-room : goal.tell-next-requires-clause-room
tell-next-requires-clause-room c =
    item_room (changes_of (step_of c.args.telling.now)) c.items-post-items.result.now c.loop-post.post-index c.post-item.result c.loop-post.next c.loop-post.nodes c.loop-post-test.true c.post-item.is c.loop-post.invariant.room

pub loop-post-preserved : goal.loop-post-preserved
loop-post-preserved c =
    let l = c.loop-post.invariant in
    let r = item_goes (changes_of (step_of c.args.telling.now)) c.items-post-items.result.now c.loop-post.post-index c.post-item.result c.loop-post.next c.tell-next.result _ c.loop-post.nodes c.tell-next.new.nodes _ c.loop-post-test.true c.post-item.is l.room l.count l.rest c.tell-next.ensures.count c.tell-next.ensures.nodes in
    record { room = r.0; count = r.1; rest = r.2 }

pub returns : goal.returns
returns c =
    let l = c.loop-post.invariant in
    let each = changes_of (step_of c.args.telling.now) in
    (items_end each c.items-post-items.result.now c.loop-post.post-index c.loop-post.next _ c.loop-post.nodes _ c.loop-post-test.false l.count l.rest).1
    ∙ ap (λ ps. changed_from c.args.at (flat_map each ps) c.args.nodes.now) c.items-post-items.ensures
