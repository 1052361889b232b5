use Rattle.std.proofs.Common.{sym, subst, ◌∙◌}
use Rattle.sy_core.specs.declared.kind.Target.TheVariants as T
use Rattle.sy_present.specs.Machine.Told.{IsPresent}
use Rattle.sy_present.proofs.Firing.{fired, is_there}
use Rattle.sy_present.proofs.present.Present.fire_position.Goals as goal

pub returns-then-fires_at-clause-present : goal.returns-then-fires_at-clause-present
returns-then-fires_at-clause-present c = λ h present.
    let deed = c.args.deed.now in
    let fires = sym (c.fires_at.ensures h present) ∙ c.if-fires_at.true in
    let there = is_there deed h.now h.before c.args.kind c.args.number fires in
    subst (IsPresent c.happen.new.self deed) (sym (fired deed (c.args.kind, T.Position c.args.number) h fires)) (c.happen.ensures.present h there.0 there.1 present)
