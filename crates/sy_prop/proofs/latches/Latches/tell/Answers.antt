use Rattle.std.proofs.Common.{length, refl, ◌∙◌, ap, arith}
use Rattle.std.proofs.lemmas.List.{with_items_is}
use Rattle.std.specs.Vec.{with_items}
use Rattle.sy_atoms.specs.Machine.Steps.{news_step}
use Rattle.sy_atoms.proofs.Dates.{dated_is_passed}
use Rattle.sy_prop.specs.declared.latches.Latches.{Latches}
use Rattle.sy_prop.specs.Machine.Changes.{changed_from}
use Rattle.sy_prop.specs.Machine.Deeds.{changes_of_deed}
use Rattle.sy_prop.proofs.Standing.{has_room, told_made, told_stands}
use Rattle.sy_prop.proofs.latches.Latches.tell.Goals as goal

pub tell_deed-requires-clause-room : goal.tell_deed-requires-clause-room
tell_deed-requires-clause-room c =
    let deed = c.args.deed.now in
    let old = c.args.self.now in
    let p = dated_is_passed deed.unit old.point c.requires.made.dated in
    let room = has_room (news_step deed.unit old.point c.args.news) old deed c.requires.made.told c.requires.made.stands in
    let same = ap length c.as_mut_slice.ensures.value in
    simp p (omega (arith, room, same))

pub returns-clause-made : goal.returns-clause-made
returns-clause-made c =
    let old = c.args.self.now in
    let deed = c.args.deed.now in
    let new : Latches = record { point = old.point; nodes = with_items old.nodes c.tell_deed.new.nodes; roots = old.roots; posts = old.posts; places = old.places } in
    let e = with_items_is old.nodes c.tell_deed.new.nodes (c.tell_deed.auto.nodes ∙ c.as_mut_slice.ensures.len) in
    let p = dated_is_passed deed.unit old.point c.requires.made.dated in
    let w = simp p at c.tell_deed.ensures in
    let takes = e ∙ (w ∙ ap (changed_from 0 (changes_of_deed (news_step deed.unit old.point c.args.news) deed)) c.as_mut_slice.ensures.value) in
    told_made old new deed c.args.news refl refl refl refl takes c.requires.made

pub returns-clause-stands : goal.returns-clause-stands
returns-clause-stands c =
    let old = c.args.self.now in
    let deed = c.args.deed.now in
    let new : Latches = record { point = old.point; nodes = with_items old.nodes c.tell_deed.new.nodes; roots = old.roots; posts = old.posts; places = old.places } in
    let e = with_items_is old.nodes c.tell_deed.new.nodes (c.tell_deed.auto.nodes ∙ c.as_mut_slice.ensures.len) in
    let p = dated_is_passed deed.unit old.point c.requires.made.dated in
    let w = simp p at c.tell_deed.ensures in
    let takes = e ∙ (w ∙ ap (changed_from 0 (changes_of_deed (news_step deed.unit old.point c.args.news) deed)) c.as_mut_slice.ensures.value) in
    told_stands old new deed c.args.news refl refl refl refl takes
