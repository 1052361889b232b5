use Rattle.std.proofs.Common.{◌∙◌, ◌+◌, ◌||◌, not, refl, sym, ap, arith}
use Rattle.sy_core.specs.declared.kind.Target.TheVariants as T
use Rattle.sy_core.specs.Conditions.{is_awaited, is_settled, next_state, is_remedied}
use Rattle.sy_quiet.proofs.Numbered.{all-numbered}
use Rattle.sy_present.proofs.Scans.{item-there, all-failed, all-later, all-end}
use Rattle.sy_present.proofs.present.Present.all_settled.Goals as goal

pub loop-position-init : goal.loop-position-init
loop-position-init c = record {
  number = refl;
  rest = λ h present. all-numbered (λ n. is_awaited n.1.form) (λ n. is_settled (next_state h.now n.0 n.1) (is_remedied c.args.deed.now h.now (T.Position n.0))) _ _ c.items-position-items.ensures;
}

pub loop-position-preserved : goal.loop-position-preserved
loop-position-preserved c = record {
  number = ap (λ k. k + 1) c.loop-position.invariant.number;
  rest = λ h present.
      let deed = c.args.deed.now in
      let items = c.items-position-items.result.now in
      let number = c.loop-position.number in
      let i = c.loop-position.position-index in
      let position = c.position-item.result in
      let there = item-there items deed.positions number i position c.items-position-items.ensures c.loop-position.invariant.number c.loop-position-test.true c.position-item.is in
      all-later (λ n. not (is_awaited n.1.form) || is_settled (next_state h.now n.0 n.1) (is_remedied deed h.now (T.Position n.0))) items number i _ position c.loop-position-test.true c.position-item.is
      (sym c.if-not-is_done.false ∙ c.is_done.ensures h present there) (c.loop-position.invariant.rest h present);
}

pub returns-then-not-is_done : goal.returns-then-not-is_done
returns-then-not-is_done c = λ h present.
    let deed = c.args.deed.now in
    let items = c.items-position-items.result.now in
    let number = c.loop-position.number in
    let i = c.loop-position.position-index in
    let position = c.position-item.result in
    let there = item-there items deed.positions number i position c.items-position-items.ensures c.loop-position.invariant.number c.loop-position-test.true c.position-item.is in
    all-failed (λ n. not (is_awaited n.1.form) || is_settled (next_state h.now n.0 n.1) (is_remedied deed h.now (T.Position n.0))) items number i _ position c.loop-position-test.true c.position-item.is
    (sym c.if-not-is_done.true ∙ c.is_done.ensures h present there) (c.loop-position.invariant.rest h present)

pub returns : goal.returns
returns c = λ h present.
    let deed = c.args.deed.now in
    all-end (λ n. not (is_awaited n.1.form) || is_settled (next_state h.now n.0 n.1) (is_remedied deed h.now (T.Position n.0))) c.items-position-items.result.now c.loop-position.number c.loop-position.position-index _ (omega arith) (c.loop-position.invariant.rest h present)
