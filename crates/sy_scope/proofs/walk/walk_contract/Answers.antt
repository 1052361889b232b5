use Rattle.std.proofs.Common.{◌++◌, flat_map, ap, ◌∙◌}
use Rattle.sy_scope.specs.Walks.{finds, obligation_propositions, power_propositions}
use Rattle.sy_scope.proofs.Sections.{joins}
use Rattle.sy_scope.proofs.walk.walk_contract.Goals as goal

pub returns : goal.returns
returns g c =
    let f = finds (g.L.Leaves.found c.args.leaves.now) in
    let t = c.args.contract.now in
    let o = c.args.out.now in
    let of_obligations = flat_map obligation_propositions in
    let of_powers = flat_map power_propositions in
    let a = t.preconditions in
    let b = a ++ t.postconditions in
    let d = b ++ of_obligations t.obligations in
    let e = d ++ of_obligations t.surviving in
    let h = e ++ of_powers t.powers in
    joins f o _ _ h t.constraints _
    (joins f o _ _ e (of_powers t.powers) _
    (joins f o _ _ d (of_obligations t.surviving) _
    (joins f o _ _ b (of_obligations t.obligations) _
    (joins f o _ _ a t.postconditions _
    (c.in_ok-walk_section.ensures ∙ ap (λ xs. o ++ flat_map f xs) c.items.ensures)
    c.items-2.ensures c.in_ok-walk_section-2.ensures)
    (ap of_obligations c.items-3.ensures) c.in_ok-walk_obligations.ensures)
    (ap of_obligations c.items-4.ensures) c.in_ok-walk_obligations-2.ensures)
    (ap of_powers c.items-5.ensures) c.in_ok-walk_powers.ensures)
    c.items-6.ensures c.in_ok-walk_section-3.ensures
