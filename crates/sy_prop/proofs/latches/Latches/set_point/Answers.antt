use Rattle.std.proofs.Common.{◌≡◌, pos, ◌+ℤ◌, ◌<ℤ◌, map, refl, ◌∙◌, ap, subst, w64, to_z, of_z}
use Rattle.std.proofs.lemmas.Int.{to_z-of_z}
use Rattle.std.proofs.lemmas.List.{with_items_is}
use Rattle.std.proofs.lemmas.Float.{T_from_true}
use Rattle.std.specs.Vec.{with_items}
use Rattle.sy_atoms.specs.Machine.Atoms.{passed_to}
use Rattle.sy_atoms.proofs.Dates.{dated_is_passed, next_is_passed}
use Rattle.sy_prop.specs.declared.latches.Latches.{Latches}
use Rattle.sy_prop.specs.Machine.Tables.{on_atom}
use Rattle.sy_prop.proofs.Standing.{passed_made, passed_stands}
use Rattle.sy_prop.proofs.latches.Latches.set_point.Goals as goal

pub returns-then-self-point-clause-made : goal.returns-then-self-point-clause-made
returns-then-self-point-clause-made c =
    let old = c.args.self.now in
    let unit = c.args.deed.now.unit in
    let new : Latches = record { point = to_z w64 (of_z w64 c.args.point); nodes = with_items old.nodes c.pass_to.new.nodes; roots = old.roots; posts = old.posts; places = old.places } in
    let e = with_items_is old.nodes c.pass_to.new.nodes (c.pass_to.auto.nodes ∙ c.as_mut_slice.ensures.len) in
    let p = dated_is_passed unit old.point c.requires.made.dated in
    let n = next_is_passed unit old.point c.requires.made.dated in
    let n' = subst (λ x. to_z w64 (of_z w64 (x +ℤ pos 1)) ≡ old.point +ℤ pos 1) p n in
    let q = to_z-of_z w64 c.args.point c.ranges.point in
    let w = simp (n', p, q) at c.pass_to.ensures in
    let lt : old.point <ℤ c.args.point = record { lt = T_from_true _ (simp (p, q) at c.if-self-point.true) } in
    let takes = e ∙ (w ∙ ap (map (on_atom (passed_to old.point (old.point +ℤ pos 1) c.args.point))) c.as_mut_slice.ensures.value) in
    passed_made old new c.args.deed.now c.args.point lt q refl refl refl takes c.requires.dated c.requires.made

pub returns-then-self-point-clause-stands : goal.returns-then-self-point-clause-stands
returns-then-self-point-clause-stands c =
    let old = c.args.self.now in
    let unit = c.args.deed.now.unit in
    let new : Latches = record { point = to_z w64 (of_z w64 c.args.point); nodes = with_items old.nodes c.pass_to.new.nodes; roots = old.roots; posts = old.posts; places = old.places } in
    let e = with_items_is old.nodes c.pass_to.new.nodes (c.pass_to.auto.nodes ∙ c.as_mut_slice.ensures.len) in
    let p = dated_is_passed unit old.point c.requires.made.dated in
    let n = next_is_passed unit old.point c.requires.made.dated in
    let n' = subst (λ x. to_z w64 (of_z w64 (x +ℤ pos 1)) ≡ old.point +ℤ pos 1) p n in
    let q = to_z-of_z w64 c.args.point c.ranges.point in
    let w = simp (n', p, q) at c.pass_to.ensures in
    let lt : old.point <ℤ c.args.point = record { lt = T_from_true _ (simp (p, q) at c.if-self-point.true) } in
    let takes = e ∙ (w ∙ ap (map (on_atom (passed_to old.point (old.point +ℤ pos 1) c.args.point))) c.as_mut_slice.ensures.value) in
    passed_stands old new c.args.deed.now c.args.point lt q refl refl refl takes
