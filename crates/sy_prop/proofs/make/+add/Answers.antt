use Rattle.std.proofs.Common.{◌≡◌, ◌++◌, ◌∷◌, [], ◌-◌, length, rules, ◌∙◌, ap, arith, length-append}
use Rattle.sy_core.specs.declared.proposition.Prop.TheFolds.{the_lemmas}
use Rattle.sy_atoms.specs.Histories.{first_history}
use Rattle.sy_prop.specs.declared.node.Node.TheVariants as N
use Rattle.sy_prop.specs.Machine.Tables.{nodes_of_prop}
use Rattle.sy_prop.proofs.Making.{not_made, all_made, any_made, chain_goes_on}
use Rattle.sy_prop.proofs.Sound.{sound_part_of_all, sound_part_of_any}
use Rattle.sy_prop.proofs.make.+add.Goals as goal

pub add-requires-in-loop-part : goal.add-requires-in-loop-part
add-requires-in-loop-part t c = (
  search (rules, the_lemmas),
  sound_part_of_all c.args.deed.now c.args.prop.now c.in-All.parts c.as_slice-part-items.result.now c.loop-part.part-index c.part-item.result c.requires.sound c.in-All.is c.as_slice-part-items.ensures c.loop-part-test.true c.part-item.is,
)

pub loop-part-preserved : goal.loop-part-preserved
loop-part-preserved t c =
    let unit = c.args.deed.now.unit in
    let h = first_history c.args.deed.now.start in
    let nodes = c.loop-part.nodes.items in
    let added = c.add-in-loop-part.new.nodes.items in
    let a : added ≡ nodes ++ nodes_of_prop unit h c.part-item.result (length nodes) = c.in_ok-add-in-All.ensures in
    let p : c.push-in-loop-part.new.nodes.items ≡ added ++ N.Both (c.count-root.result - 1) ∷ [] = c.in_ok-push-in-All-2.ensures in
    let b : c.push-in-loop-part.new.nodes.items ≡ added ++ N.Both (length nodes - 1) ∷ [] = p ∙ ap (λ n. added ++ N.Both (n - 1) ∷ []) c.count-root.ensures in
    record {
      some = omega (arith, ap length b, length-append added (N.Both (length nodes - 1) ∷ []));
      rest = chain_goes_on unit h N.Both c.as_slice-part-items.result.now c.loop-part.part-index c.part-item.result nodes added c.push-in-loop-part.new.nodes.items _ c.loop-part-test.true c.part-item.is a b c.loop-part.invariant.rest;
    }

pub returns-after-loop-part : goal.returns-after-loop-part
returns-after-loop-part t c =
    all_made c.args.deed.now.unit (first_history c.args.deed.now.start) c.args.prop.now c.in-All.parts c.as_slice-part-items.result.now c.loop-part.part-index c.args.nodes.now.items c.loop-part.nodes.items c.in-All.is c.as_slice-part-items.ensures c.loop-part-test.false c.loop-part.invariant.rest

pub add-requires-in-loop-part-2 : goal.add-requires-in-loop-part-2
add-requires-in-loop-part-2 t c = (
  search (rules, the_lemmas),
  sound_part_of_any c.args.deed.now c.args.prop.now c.in-Any.parts c.as_slice-part-items-in-Any.result.now c.loop-part-2.part-index c.part-item-in-loop-part-2.result c.requires.sound c.in-Any.is c.as_slice-part-items-in-Any.ensures c.loop-part-2-test.true c.part-item-in-loop-part-2.is,
)

pub loop-part-2-preserved : goal.loop-part-2-preserved
loop-part-2-preserved t c =
    let unit = c.args.deed.now.unit in
    let h = first_history c.args.deed.now.start in
    let nodes = c.loop-part-2.nodes.items in
    let added = c.add-in-loop-part-2.new.nodes.items in
    let a : added ≡ nodes ++ nodes_of_prop unit h c.part-item-in-loop-part-2.result (length nodes) = c.in_ok-add-in-Any.ensures in
    let p : c.push-in-loop-part-2.new.nodes.items ≡ added ++ N.Either (c.count-root-in-loop-part-2.result - 1) ∷ [] = c.in_ok-push-in-Any-2.ensures in
    let b : c.push-in-loop-part-2.new.nodes.items ≡ added ++ N.Either (length nodes - 1) ∷ [] = p ∙ ap (λ n. added ++ N.Either (n - 1) ∷ []) c.count-root-in-loop-part-2.ensures in
    record {
      some = omega (arith, ap length b, length-append added (N.Either (length nodes - 1) ∷ []));
      rest = chain_goes_on unit h N.Either c.as_slice-part-items-in-Any.result.now c.loop-part-2.part-index c.part-item-in-loop-part-2.result nodes added c.push-in-loop-part-2.new.nodes.items _ c.loop-part-2-test.true c.part-item-in-loop-part-2.is a b c.loop-part-2.invariant.rest;
    }

pub returns-after-loop-part-2 : goal.returns-after-loop-part-2
returns-after-loop-part-2 t c =
    any_made c.args.deed.now.unit (first_history c.args.deed.now.start) c.args.prop.now c.in-Any.parts c.as_slice-part-items-in-Any.result.now c.loop-part-2.part-index c.args.nodes.now.items c.loop-part-2.nodes.items c.in-Any.is c.as_slice-part-items-in-Any.ensures c.loop-part-2-test.false c.loop-part-2.invariant.rest

pub returns-in_ok-push-in-Not : goal.returns-in_ok-push-in-Not
returns-in_ok-push-in-Not t c =
    let unit = c.args.deed.now.unit in
    let h = first_history c.args.deed.now.start in
    let old = c.args.nodes.now.items in
    not_made unit h c.in-Not.part c.args.prop.now old c.add.new.nodes.items c.push-in-Not.new.nodes.items c.in-Not.is
    (c.in_ok-add-in-Not.ensures ∙ ap (λ p. old ++ nodes_of_prop unit h p (length old)) c.get.ensures)
    c.in_ok-push-in-Not.ensures
