use Rattle.std.proofs.Common.{refl}
use Rattle.sy_core.specs.declared.kind.Target.TheVariants as target
use Rattle.sy_machines.specs.Fired.{has}
use Rattle.sy_present.specs.Machine.Happened.{is_event_of, does_to}
use Rattle.sy_present.proofs.Acts.{by_position}
use Rattle.sy_present.proofs.Happened.{stays, position_apart, present_more}
use Rattle.sy_present.proofs.present.Present.happen.Goals as goal

pub returns-clause-present : goal.returns-clause-present
returns-clause-present c = λ h p there present.
    let kind = c.args.kind in
    let i = c.args.number in
    let old = c.args.self.now in
    present_more c.args.deed.now h kind (target.Position i) (does_to kind p.goal) old _
    (λ x v. by_position c.args.deed.now kind h v x i p there)
    refl
    (λ k. stays (has old.contract_fired k) (is_event_of kind (target.Position i) target.Contract k) (position_apart kind k i))
    (λ v. c.happen_at.ensures.contract p v there)
    (c.happen_at.ensures.places p there)
    refl
    (c.fire.ensures.stands h present.latches)
    present
