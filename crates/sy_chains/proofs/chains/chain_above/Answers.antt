use Rattle.std.proofs.Common.{length}
use Rattle.sy_chains.specs.Chains.{above}
use Rattle.sy_chains.proofs.ChainTurn.{chain_collects}
use Rattle.sy_chains.proofs.chains.chain_above.Goals as goal

pub steps-preserved : goal.steps-preserved
steps-preserved c =
    let bases = c.args.bases.now in
    chain_collects bases c.in-Some.reached (length bases) c.steps.k c.steps.at
    (above bases c.args.number) c.steps.out c.push.new.self c.base_at-at-in-Some.result
    c.in-Some.is c.steps-test.true c.steps.invariant c.in_ok-push-in-Some.ensures.ok c.base_at-at-in-Some.ensures
