use Rattle.sy_present.proofs.Asked.{asking_set, asking_none}
use Rattle.sy_present.proofs.seen.ask.Goals as goal

pub returns-then-at-places : goal.returns-then-at-places
returns-then-at-places c = asking_set c.args.number c.args.places.now _ c.if-at-places.true

pub returns-else-at-places : goal.returns-else-at-places
returns-else-at-places c = asking_none c.args.number c.args.places.now c.if-at-places.false
