use Rattle.std.proofs.Common.{◌≡◌, ◌-◌, ◌+◌, length, sym, ◌∙◌, ap, nat_eq}
use Rattle.std.specs.List.{list_any}
use Rattle.sy_chains.specs.Chains.{chain}
use Rattle.sy_chains.proofs.ChainTurn.{chain_turn}
use Rattle.sy_chains.proofs.chains.is_above.Goals as goal

pub steps-preserved : goal.steps-preserved
steps-preserved c =
    let bases = c.args.bases.now in
    c.steps.invariant
    ∙ chain_turn bases c.args.to c.in-Some.reached (length bases) c.steps.k c.steps.at
    c.in-Some.is c.steps-test.true c.if-to-reached.false
    ∙ ap (λ o. list_any (nat_eq c.args.to) (chain bases (length bases - (c.steps.k + 1)) o))
    (sym c.base_at-at-in-Some.ensures)
