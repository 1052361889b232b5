use Rattle.std.proofs.Common.{Some, set, sym, subst}
use Rattle.sy_chains.specs.Machine.Walks.{IsWalk}
use Rattle.sy_chains.proofs.Climbs.{walk_goes_on, fewer_left}
use Rattle.sy_chains.proofs.walks.climb.Goals as goal

pub climb-smaller : goal.climb-smaller
climb-smaller c =
    let l = c.climb in
    let walk = subst (IsWalk c.args.bases.now c.args.from c.args.marks.now l.marks) c.in-Some.ensures.0 l.invariant in
    fewer_left c.args.bases.now c.args.from c.args.marks.now l.marks c.in-Some.number walk c.in-Some.ensures.1

pub climb-preserved : goal.climb-preserved
climb-preserved c =
    let l = c.climb in
    let walk = subst (IsWalk c.args.bases.now c.args.from c.args.marks.now l.marks) c.in-Some.ensures.0 l.invariant in
    let more = walk_goes_on c.args.bases.now c.args.from c.args.marks.now l.marks c.in-Some.number walk c.in-Some.ensures.1 in
    subst (IsWalk c.args.bases.now c.args.from c.args.marks.now (set l.marks c.in-Some.number (Some c.args.from)))
    (sym c.base_at-at.ensures) more
