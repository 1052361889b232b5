use Rattle.std.proofs.Common.{false, refl, arith}
use Rattle.sy_core.specs.declared.kind.Target.TheVariants as target
use Rattle.sy_core.specs.declared.position.Goal.TheVariants as G
use Rattle.sy_core.specs.Conditions.{is_act}
use Rattle.sy_present.proofs.Happened.{done_here, one_more, none_there, act_elsewhere}
use Rattle.sy_present.proofs.happen.add_at.Goals as goal

pub returns-in-Some : goal.returns-in-Some
returns-in-Some c =
    let verb = c.args.verb in
    let i = c.args.number in
    let place = c.in-Some.place.now in
    one_more (λ _ _. false) (λ x v. is_act v x (G.Act (record { verb = verb; target = target.Position i }))) c.args.places.now.items i place _ c.in-Some.ensures.item.3.0 c.in-Some.ensures.value
    (λ j apart k. refl)
    (λ j apart v. act_elsewhere verb v i j apart)
    (done_here verb i place c.add.new.self c.add.ensures)

pub returns-in_default : goal.returns-in_default
returns-in_default c =
    let verb = c.args.verb in
    let i = c.args.number in
    none_there (λ _ _. false) (λ x v. is_act v x (G.Act (record { verb = verb; target = target.Position i }))) c.args.places.now.items i (omega (arith, c.in_default.ensures.item))
    (λ j apart k. refl)
    (λ j apart v. act_elsewhere verb v i j apart)
