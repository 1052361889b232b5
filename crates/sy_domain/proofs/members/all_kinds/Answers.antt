use Rattle.std.proofs.Common.{◌≡◌, ◌∙◌, ap, map}
use Rattle.std.specs.List.{enumerate_from}
use Rattle.sy_domain.specs.Machine.Ended.{noted_kind}
use Rattle.sy_domain.proofs.Ended.{noted_are_kinds}
use Rattle.sy_domain.proofs.members.all_kinds.Goals as goal

pub returns : goal.returns
returns c =
    let types = c.args.types.now in
    c.in_ok-kinds.ensures
    ∙ ap (λ ends. map (noted_kind types ends) (enumerate_from 0 types)) c.deref.ensures.value
    ∙ noted_are_kinds c.args.bases.now c.in_ok-ends.ends.items types c.requires.same c.in_ok-ends.ensures
