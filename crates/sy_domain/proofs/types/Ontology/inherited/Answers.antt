use Rattle.std.proofs.Common.{◌≡◌, ◌-◌, ◌+◌, length, flat_map, sym, ap, ◌∙◌}
use Rattle.std.specs.Map.{lookup}
use Rattle.sy_chains.specs.Chains.{chain}
use Rattle.sy_domain.specs.Names.{same}
use Rattle.sy_domain.specs.Ontologies.{owned_at}
use Rattle.sy_domain.proofs.Found.{found_here, found_above}
use Rattle.sy_domain.proofs.types.Ontology.inherited.Goals as goal

pub returns-in-Some : goal.returns-in-Some
returns-in-Some c =
    let bases = c.items-bases.result.now in
    sym
    (c.steps.invariant
    ∙ found_here (same c.args.name.now) (owned_at c.args.self.now) bases c.in_ok-reached.reached (length bases) c.steps.k c.steps.at
    c.in_ok-reached.was c.steps-test.true c.in-Some.member (sym c.own_member.ensures ∙ c.in-Some.is))

pub steps-preserved : goal.steps-preserved
steps-preserved c =
    let bases = c.items-bases.result.now in
    let test = same c.args.name.now in
    let entries = owned_at c.args.self.now in
    c.steps.invariant
    ∙ found_above test entries bases c.in_ok-reached.reached (length bases) c.steps.k c.steps.at
    c.in_ok-reached.was c.steps-test.true (sym c.own_member.ensures ∙ c.in-None.is)
    ∙ ap (λ o. lookup test (flat_map entries (chain bases (length bases - (c.steps.k + 1)) o)))
    (sym c.base_at-at-in-None.ensures)
