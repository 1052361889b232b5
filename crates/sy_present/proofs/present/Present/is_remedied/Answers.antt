use Rattle.std.proofs.Common.{◌∙◌, ◌+◌, ◌&&◌, refl, sym, ap, arith}
use Rattle.sy_core.specs.declared.state.StateOf.TheVariants.{Fulfillment}
use Rattle.sy_core.specs.States.{same_state}
use Rattle.sy_core.specs.Conditions.{is_remedy, next_state}
use Rattle.sy_quiet.proofs.Numbered.{any-numbered}
use Rattle.sy_present.proofs.Scans.{item-there, any-found, any-later, any-end}
use Rattle.sy_present.proofs.present.Present.is_remedied.Goals as goal

pub loop-position-init : goal.loop-position-init
loop-position-init c = record {
  number = refl;
  rest = λ h present. any-numbered (λ n. is_remedy c.args.violated n.1) (λ n. same_state (next_state h.now n.0 n.1) Fulfillment) _ _ c.items-position-items.ensures;
}

pub loop-position-preserved : goal.loop-position-preserved
loop-position-preserved c = record {
  number = ap (λ k. k + 1) c.loop-position.invariant.number;
  rest = λ h present.
      let deed = c.args.deed.now in
      let items = c.items-position-items.result.now in
      let number = c.loop-position.number in
      let i = c.loop-position.position-index in
      let position = c.position-item.result in
      let there = item-there items deed.positions number i position c.items-position-items.ensures c.loop-position.invariant.number c.loop-position-test.true c.position-item.is in
      any-later (λ n. is_remedy c.args.violated n.1 && same_state (next_state h.now n.0 n.1) Fulfillment) items number i _ position c.loop-position-test.true c.position-item.is
      (sym c.if-remedies.false ∙ c.remedies.ensures deed h c.requires present there) (c.loop-position.invariant.rest h present);
}

pub returns-then-remedies : goal.returns-then-remedies
returns-then-remedies c = λ h present.
    let deed = c.args.deed.now in
    let items = c.items-position-items.result.now in
    let number = c.loop-position.number in
    let i = c.loop-position.position-index in
    let position = c.position-item.result in
    let there = item-there items deed.positions number i position c.items-position-items.ensures c.loop-position.invariant.number c.loop-position-test.true c.position-item.is in
    any-found (λ n. is_remedy c.args.violated n.1 && same_state (next_state h.now n.0 n.1) Fulfillment) items number i _ position c.loop-position-test.true c.position-item.is
    (sym c.if-remedies.true ∙ c.remedies.ensures deed h c.requires present there) (c.loop-position.invariant.rest h present)

pub returns : goal.returns
returns c = λ h present.
    let deed = c.args.deed.now in
    any-end (λ n. is_remedy c.args.violated n.1 && same_state (next_state h.now n.0 n.1) Fulfillment) c.items-position-items.result.now c.loop-position.number c.loop-position.position-index _ (omega arith) (c.loop-position.invariant.rest h present)
