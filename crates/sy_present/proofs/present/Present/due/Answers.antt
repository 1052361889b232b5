use Rattle.std.proofs.Common.{◌∙◌}
use Rattle.sy_present.proofs.Passing.{date_known}
use Rattle.sy_present.proofs.present.Present.due.Goals as goal

pub returns : goal.returns
returns c = λ deed narrative n date stands is.
    let told = stands.told in
    c.due.ensures deed told.history date told.stand is
    ∙ date_known deed narrative n date told.behind told.history told.reach
