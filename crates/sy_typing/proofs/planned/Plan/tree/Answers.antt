use Rattle.sy_typing.proofs.Kept.{kept_soundness}
use Rattle.sy_typing.proofs.planned.Plan.tree.Goals as goal

pub returns-clause-sound : goal.returns-clause-sound
returns-clause-sound c = kept_soundness _ _ c.self.view_is c.self.invariant.sound
