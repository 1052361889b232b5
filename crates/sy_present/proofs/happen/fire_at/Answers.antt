use Rattle.std.proofs.Common.{false, refl, arith}
use Rattle.sy_core.specs.declared.kind.Target.TheVariants as target
use Rattle.sy_present.specs.Machine.Happened.{is_event_of}
use Rattle.sy_present.proofs.Happened.{fired_here, one_more, none_there, event_elsewhere}
use Rattle.sy_present.proofs.happen.fire_at.Goals as goal

pub returns-in-Some : goal.returns-in-Some
returns-in-Some c =
    let kind = c.args.kind in
    let i = c.args.number in
    let place = c.in-Some.place.now in
    one_more (is_event_of kind (target.Position i)) (λ _ _. false) c.args.places.now.items i place _ c.in-Some.ensures.item.3.0 c.in-Some.ensures.value
    (λ j apart k. event_elsewhere kind k i j apart)
    (λ j apart v. refl)
    (fired_here kind i place c.set.new.self c.set.ensures.set c.set.ensures.others)

pub returns-in_default : goal.returns-in_default
returns-in_default c =
    let kind = c.args.kind in
    let i = c.args.number in
    none_there (is_event_of kind (target.Position i)) (λ _ _. false) c.args.places.now.items i (omega (arith, c.in_default.ensures.item))
    (λ j apart k. event_elsewhere kind k i j apart)
    (λ j apart v. refl)
