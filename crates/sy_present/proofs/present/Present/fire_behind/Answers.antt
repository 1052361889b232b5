use Rattle.std.proofs.Common.{sym, subst}
use Rattle.sy_present.specs.Machine.Behind.{stands_behind}
use Rattle.sy_present.specs.Machine.Told.{IsPresent}
use Rattle.sy_present.proofs.Firing.{firing_contract_events}
use Rattle.sy_present.proofs.present.Present.fire_behind.Goals as goal

pub returns-clause-present : goal.returns-clause-present
returns-clause-present c = λ h present.
    let deed = c.args.deed.now in
    subst (IsPresent c.fire_contract_if-3.new.self deed) (sym (firing_contract_events deed (stands_behind c.args.behind) h))
    (c.fire_contract_if-3.ensures.present _ (c.fire_contract_if-2.ensures.present _ (c.fire_contract_if.ensures.present h present)))
