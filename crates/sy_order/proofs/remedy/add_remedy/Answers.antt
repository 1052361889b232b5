use Rattle.std.proofs.Common.{take, get_or}
use Rattle.std.proofs.lemmas.List.{take_more}
use Rattle.sy_words.specs.declared.kind.Kind.TheVariants.{Exerted}
use Rattle.sy_core.specs.declared.kind.Target.TheVariants.{Position}
use Rattle.sy_order.proofs.Remedying.{noted_more}
use Rattle.sy_order.proofs.remedy.add_remedy.Goals as goal

pub loop-name-preserved : goal.loop-name-preserved
loop-name-preserved c =
    let l = c.loop-name in
    let names = c.args.names.now in
    let i = l.name-index in
    rw (take_more names i (Exerted, Position 0) c.loop-name-test.true)
    (noted_more c.args.number (take i names) (get_or names i (Exerted, Position 0)) c.args.lists.now.items l.lists.items c.add_if_violation.new.lists.items c.requires l.invariant c.in_ok-add_if_violation.ensures)
