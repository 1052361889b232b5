use Rattle.std.proofs.Common.{false, refl, sym}
use Rattle.sy_core.specs.declared.kind.Target.TheVariants as target
use Rattle.sy_core.proofs.Listing.{or_false}
use Rattle.sy_present.specs.Machine.Told.{has_done}
use Rattle.sy_present.specs.Machine.Happened.{is_event_of}
use Rattle.sy_present.proofs.Acts.{by_contract}
use Rattle.sy_present.proofs.Happened.{fired_more, none_more, contract_apart, present_more}
use Rattle.sy_present.proofs.present.Present.happen_to_contract.Goals as goal

pub returns-clause-present : goal.returns-clause-present
returns-clause-present c = λ h present.
    let kind = c.args.kind in
    let old = c.args.self.now in
    present_more c.args.deed.now h kind target.Contract (λ _ _. false) old _
    (λ x v. by_contract c.args.deed.now kind h v x)
    refl
    (λ k. fired_more target.Contract kind k old.contract_fired c.set.new.self c.set.ensures.set c.set.ensures.others)
    (λ v. sym (or_false (has_done old.contract_done v)))
    (none_more (is_event_of kind target.Contract) (λ _ _. false) old.places.items (λ i place is. ((λ k. contract_apart kind k i), (λ v. refl))))
    refl
    (c.fire.ensures.stands h present.latches)
    present
