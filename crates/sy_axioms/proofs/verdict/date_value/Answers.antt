use Rattle.std.proofs.Common.{subst, sym}
use Rattle.sy_base.specs.Points.{IsDated}
use Rattle.sy_axioms.proofs.Dates.{beginning_is_dated, dated_is_passed}
use Rattle.sy_axioms.proofs.verdict.date_value.Goals as goal

pub add_all-requires-clause-dated : goal.add_all-requires-clause-dated
add_all-requires-clause-dated c =
    let unit = c.args.present.now.deed.now.unit in
    let dated = beginning_is_dated c.args.present.now.deed.now c.args.present.now.before.now c.args.present.now.moment.now c.args.present.now.ready c.args.term.now c.in_ok-point.point c.requires (sym c.in_ok-point.ensures) in
    subst (IsDated unit) (sym (dated_is_passed unit c.in_ok-point.point dated)) dated
