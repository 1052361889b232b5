use Rattle.std.proofs.Common.{◌∙◌, arith, rules}
use Rattle.std.proofs.lemmas.List.{take_rest}
use Rattle.std.proofs.lemmas.Result.{IfOk-weaker}
use Rattle.sy_strata.proofs.Walks.{walk_begins, read_within, read_ends, read_goes_on}
use Rattle.sy_strata.proofs.cycle.walk.Goals as goal

pub loop-coming-init : goal.loop-coming-init
loop-coming-init c = rw (c.new-way.ensures, c.in_ok-comings.ensures.items_if_clones_equal (λ y h. search rules)) (walk_begins c.args.next.now c.args.n c.args.first c.requires.first)

pub offset_bounds-items-place : goal.offset_bounds-items-place
offset_bounds-items-place c =
    let w = c.loop-coming in
    let within = read_within c.args.next.now c.args.n c.args.first w.way w.comings.items w.coming c.in-Some.node c.index.result.now w.invariant c.in-Some.is c.index.ensures c.in-Some-index.place c.items.result.now c.in-Some-index.is c.items.ensures in
    omega (arith, within, c.items.type_inv.1)

pub slice_bounds-copied-count : goal.slice_bounds-copied-count
slice_bounds-copied-count c =
    let w = c.loop-coming in
    let within = read_within c.args.next.now c.args.n c.args.first w.way w.comings.items w.coming c.in-Some.node c.index.result.now w.invariant c.in-Some.is c.index.ensures c.in-Some-index.place c.items.result.now c.in-Some-index.is c.items.ensures in
    omega (arith, within)

pub slice_bounds-copied-start : goal.slice_bounds-copied-start
slice_bounds-copied-start c =
    let w = c.loop-coming in
    let within = read_within c.args.next.now c.args.n c.args.first w.way w.comings.items w.coming c.in-Some.node c.index.result.now w.invariant c.in-Some.is c.index.ensures c.in-Some-index.place c.items.result.now c.in-Some-index.is c.items.ensures in
    within

pub returns-in-Some-index : goal.returns-in-Some-index
returns-in-Some-index c =
    let w = c.loop-coming in
    let ends = read_ends c.args.next.now c.args.n c.args.first w.way w.comings.items w.coming c.in-Some.node c.index.result.now w.invariant c.in-Some.is c.index.ensures c.in-Some-index.place c.items.result.now c.in-Some-index.is c.items.ensures in
    IfOk-weaker c.copied.result _ _ (λ copy e. e ∙ (take_rest c.items.result.now c.in-Some-index.place ∙ ends)) c.copied.ensures

pub loop-coming-preserved : goal.loop-coming-preserved
loop-coming-preserved c =
    let w = c.loop-coming in
    rw c.in_ok-push.ensures.ok (read_goes_on c.args.next.now c.args.n c.args.first w.way w.comings.items w.coming c.in-Some.node c.index.result.now w.invariant c.in-Some.is c.index.ensures c.items-in-Some.result.now c.in_default-index.is c.items-in-Some.ensures c.requires.length c.requires.next)
