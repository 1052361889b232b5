use Rattle.sy_chains.proofs.Climbs.{walked_apart, walked_round}
use Rattle.sy_chains.proofs.walks.walk.Goals as goal

pub returns-in-Some : goal.returns-in-Some
returns-in-Some c =
    let climb = c.climb-end in
    walked_round c.args.bases.now c.args.from c.args.marks.now c.args.cyclic.now climb.new.marks climb.result
    c.requires.from c.requires.walked climb.ensures.walk climb.ensures.over
    c.in-Some.number c.in-Some.ensures.0 c.in-Some.ensures.1 c.climb.new.marks c.climb.result c.climb.ensures.walk c.climb.ensures.over

pub returns-in_default : goal.returns-in_default
returns-in_default c =
    let climb = c.climb-end in
    walked_apart c.args.bases.now c.args.from c.args.marks.now c.args.cyclic.now climb.new.marks climb.result
    c.requires.from c.requires.walked climb.ensures.walk climb.ensures.over c.in_default.ensures
