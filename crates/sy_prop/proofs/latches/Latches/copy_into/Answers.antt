use Rattle.std.proofs.Common.{length, refl, sym, ◌∙◌, ap, w64, to_z, of_z}
use Rattle.std.proofs.lemmas.List.{with_items_is}
use Rattle.std.specs.Vec.{with_items}
use Rattle.sy_atoms.proofs.Dates.{dated_is_passed}
use Rattle.sy_prop.specs.declared.latches.Latches.{Latches}
use Rattle.sy_prop.proofs.Standing.{same_size, copied_made, copied_stands}
use Rattle.sy_prop.proofs.latches.Latches.copy_into.Goals as goal

pub copy_nodes-requires : goal.copy_nodes-requires
copy_nodes-requires c =
    let m = c.requires.made in
    ap length c.as_slice.ensures.value
    ∙ (same_size c.args.self.now c.args.self.now c.args.other.now m.0 m.1 m.2 ∙ sym (ap length c.as_mut_slice.ensures.value))

pub returns-clause-made : goal.returns-clause-made
returns-clause-made c =
    let m = c.requires.made in
    let old = c.args.self.now in
    let other = c.args.other.now in
    let new : Latches = record { point = to_z w64 (of_z w64 old.point); nodes = with_items other.nodes c.copy_nodes.new.to; roots = other.roots; posts = other.posts; places = other.places } in
    let e = with_items_is other.nodes c.copy_nodes.new.to (c.copy_nodes.auto.to ∙ c.as_mut_slice.ensures.len) in
    let nodes = e ∙ (c.copy_nodes.ensures ∙ c.as_slice.ensures.value) in
    let at = dated_is_passed m.0.unit old.point m.1.dated in
    copied_made old new other m.0 m.1 m.2 at nodes refl refl refl

pub returns-clause-stands : goal.returns-clause-stands
returns-clause-stands c =
    let m = c.requires.made in
    let old = c.args.self.now in
    let other = c.args.other.now in
    let new : Latches = record { point = to_z w64 (of_z w64 old.point); nodes = with_items other.nodes c.copy_nodes.new.to; roots = other.roots; posts = other.posts; places = other.places } in
    let e = with_items_is other.nodes c.copy_nodes.new.to (c.copy_nodes.auto.to ∙ c.as_mut_slice.ensures.len) in
    let nodes = e ∙ (c.copy_nodes.ensures ∙ c.as_slice.ensures.value) in
    let at = dated_is_passed m.0.unit old.point m.1.dated in
    copied_stands old new other m.0 m.1 m.2 at nodes refl refl refl
