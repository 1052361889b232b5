use Rattle.std.proofs.Common.{Some, set, sym, subst}
use Rattle.sy_chains.specs.Machine.Ends.{IsNoted}
use Rattle.sy_chains.proofs.Climbs.{fewer_without}
use Rattle.sy_chains.proofs.Noted.{noted_more}
use Rattle.sy_chains.proofs.ends.note_end.Goals as goal

pub climb-smaller : goal.climb-smaller
climb-smaller c = fewer_without c.climb.ends c.in-Some.number c.args.end c.in-Some.ensures.1

pub climb-preserved : goal.climb-preserved
climb-preserved c =
    let l = c.climb in
    let noted = subst (IsNoted c.args.bases.now c.args.from c.args.end c.args.ends.now l.ends) c.in-Some.ensures.0 l.invariant in
    subst (IsNoted c.args.bases.now c.args.from c.args.end c.args.ends.now (set l.ends c.in-Some.number (Some c.args.end)))
    (sym c.base_at-at.ensures)
    (noted_more c.args.bases.now c.args.from c.args.end c.args.ends.now l.ends c.in-Some.number c.requires.none noted c.in-Some.ensures.1)
