use Rattle.std.proofs.Common.{◌∙◌, ap, sym, subst, map, length, arith, ◌++◌, ◌∷◌, [], get_or, take, length-append}
use Rattle.std.proofs.lemmas.List.{take_more, map-append, length-map, length-take-le}
use Rattle.sy_words.specs.declared.form.Form.TheVariants.{Obligation}
use Rattle.sy_order.specs.declared.index.Place.{Place}
use Rattle.sy_order.proofs.Numbering.{numbered_few, numbered_more}
use Rattle.sy_order.proofs.index.NodeIndex.of.Goals as goal

pub overflow_cast-first : goal.overflow_cast-first
overflow_cast-first c = omega (arith, numbered_few c.loop-position.places c.loop-position.nodes c.loop-position.invariant.numbered, c.loop-position.invariant.numbered.few)

pub loop-position-preserved : goal.loop-position-preserved
loop-position-preserved c =
    let l = c.loop-position in
    let forms = c.args.forms.now in
    let i = l.position in
    let place : Place = record { form = get_or forms i Obligation; first = c.count-first.result } in
    let sizes = length-map l.places (λ (p : Place). p.form) in
    let so_far = ap length l.invariant.so_far in
    let taken = length-take-le i forms l.auto.position-end in
    rw (c.in_ok-push.ensures.ok, c.in_ok-push_position.ensures, take_more forms i Obligation c.loop-position-test.true) (record {
      numbered = numbered_more l.places l.nodes place i (omega (arith, sizes, so_far, taken)) (omega (arith, sizes, so_far, taken, c.requires)) c.count-first.ensures l.invariant.numbered;
      so_far = map-append (λ (p : Place). p.form) l.places (place ∷ []) ∙ ap (λ fs. fs ++ get_or forms i Obligation ∷ []) l.invariant.so_far;
    })
