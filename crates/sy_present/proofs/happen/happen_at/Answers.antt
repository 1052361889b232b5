use Rattle.std.proofs.Common.{◌||◌, false, ◌∙◌, ap, subst}
use Rattle.sy_core.specs.declared.kind.Target.TheVariants as target
use Rattle.sy_core.specs.declared.position.Position.{Position}
use Rattle.sy_present.specs.Machine.Told.{has_done}
use Rattle.sy_present.specs.Machine.Happened.{is_event_of, does_to, HaveMore}
use Rattle.sy_present.proofs.Acts.{read_position, none_beyond}
use Rattle.sy_present.proofs.Happened.{fired_and_done}
use Rattle.sy_present.proofs.happen.happen_at.Goals as goal

pub returns-in-Some-clause-places : goal.returns-in-Some-clause-places
returns-in-Some-clause-places c = λ p there.
    let kind = c.args.kind in
    let same = read_position c.args.deed.now.positions c.items.result.now c.args.number p c.in-Some.position.now c.items.ensures there c.in-Some.ensures.lookup.1 in
    fired_and_done (is_event_of kind (target.Position c.args.number)) (does_to kind p.goal) c.args.places.now.items c.fire_at.new.places.items c.do_event.new.places.items c.fire_at.ensures
    (subst (λ (q : Position). HaveMore (λ _ _. false) (does_to kind q.goal) c.fire_at.new.places.items c.do_event.new.places.items) same c.do_event.ensures.places)

pub returns-in-Some-clause-contract : goal.returns-in-Some-clause-contract
returns-in-Some-clause-contract c = λ p verb there.
    let same = read_position c.args.deed.now.positions c.items.result.now c.args.number p c.in-Some.position.now c.items.ensures there c.in-Some.ensures.lookup.1 in
    c.do_event.ensures.contract verb ∙ ap (λ (q : Position). has_done c.args.contract.now verb || does_to c.args.kind q.goal target.Contract verb) same

pub returns-in_default-clause-places : goal.returns-in_default-clause-places
returns-in_default-clause-places c = λ p there.
    absurd (none_beyond c.args.deed.now.positions c.items.result.now c.args.number p c.items.ensures there c.in_default.ensures.lookup.3)

pub returns-in_default-clause-contract : goal.returns-in_default-clause-contract
returns-in_default-clause-contract c = λ p verb there.
    absurd (none_beyond c.args.deed.now.positions c.items.result.now c.args.number p c.items.ensures there c.in_default.ensures.lookup.3)
