use Rattle.sy_apart.proofs.Things.{stands_for}
use Rattle.sy_apart.proofs.things_law.meanings_are_of_things.Goals as goal

pub returns : goal.returns
returns c = stands_for
