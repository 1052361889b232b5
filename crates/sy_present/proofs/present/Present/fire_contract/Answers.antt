use Rattle.std.proofs.Common.{sym, subst, ◌∙◌}
use Rattle.sy_core.specs.declared.kind.Target.TheVariants as T
use Rattle.sy_present.specs.Machine.Told.{IsPresent}
use Rattle.sy_present.proofs.Firing.{fired}
use Rattle.sy_present.proofs.present.Present.fire_contract.Goals as goal

pub returns-then-contract_fires-clause-present : goal.returns-then-contract_fires-clause-present
returns-then-contract_fires-clause-present c = λ h present.
    let deed = c.args.deed.now in
    let fires = sym (c.contract_fires.ensures h present) ∙ c.if-contract_fires.true in
    subst (IsPresent c.happen_to_contract.new.self deed) (sym (fired deed (c.args.kind, T.Contract) h fires)) (c.happen_to_contract.ensures.present h present)
