use Rattle.std.proofs.Common.{◌∙◌, ◌+◌, ◌&&◌, not, refl, sym, ap, arith}
use Rattle.sy_core.specs.declared.state.StateOf.TheVariants.{Null}
use Rattle.sy_core.specs.States.{same_state}
use Rattle.sy_core.specs.Conditions.{is_awaited, next_state}
use Rattle.sy_quiet.proofs.Numbered.{any-numbered}
use Rattle.sy_present.proofs.Scans.{item-there, any-found, any-later, any-end}
use Rattle.sy_present.proofs.present.Present.any_begun.Goals as goal

pub loop-position-init : goal.loop-position-init
loop-position-init c = record {
  number = refl;
  rest = λ h present. any-numbered (λ n. is_awaited n.1.form) (λ n. not (same_state (next_state h.now n.0 n.1) Null)) _ _ c.items-position-items.ensures;
}

pub loop-position-preserved : goal.loop-position-preserved
loop-position-preserved c = record {
  number = ap (λ k. k + 1) c.loop-position.invariant.number;
  rest = λ h present.
      let deed = c.args.deed.now in
      let items = c.items-position-items.result.now in
      let number = c.loop-position.number in
      let i = c.loop-position.position-index in
      let position = c.position-item.result in
      let there = item-there items deed.positions number i position c.items-position-items.ensures c.loop-position.invariant.number c.loop-position-test.true c.position-item.is in
      any-later (λ n. is_awaited n.1.form && not (same_state (next_state h.now n.0 n.1) Null)) items number i _ position c.loop-position-test.true c.position-item.is
      (sym c.if-has_begun.false ∙ c.has_begun.ensures deed h c.requires present there) (c.loop-position.invariant.rest h present);
}

pub returns-then-has_begun : goal.returns-then-has_begun
returns-then-has_begun c = λ h present.
    let deed = c.args.deed.now in
    let items = c.items-position-items.result.now in
    let number = c.loop-position.number in
    let i = c.loop-position.position-index in
    let position = c.position-item.result in
    let there = item-there items deed.positions number i position c.items-position-items.ensures c.loop-position.invariant.number c.loop-position-test.true c.position-item.is in
    any-found (λ n. is_awaited n.1.form && not (same_state (next_state h.now n.0 n.1) Null)) items number i _ position c.loop-position-test.true c.position-item.is
    (sym c.if-has_begun.true ∙ c.has_begun.ensures deed h c.requires present there) (c.loop-position.invariant.rest h present)

pub returns : goal.returns
returns c = λ h present.
    let deed = c.args.deed.now in
    any-end (λ n. is_awaited n.1.form && not (same_state (next_state h.now n.0 n.1) Null)) c.items-position-items.result.now c.loop-position.number c.loop-position.position-index _ (omega arith) (c.loop-position.invariant.rest h present)
