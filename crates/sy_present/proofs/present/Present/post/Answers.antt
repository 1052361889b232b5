use Rattle.std.proofs.Common.{◌∙◌}
use Rattle.sy_prop.specs.declared.roots.Root.TheVariants as R
use Rattle.sy_present.proofs.present.Present.post.Goals as goal

pub returns : goal.returns
returns c = λ deed narrative n prop stands is.
    let told = stands.told in
    let root = c.root.ensures deed told.history told.stand in
    c.verdict.ensures deed told.history (R.Post c.args.number) prop told.stand is root
    ∙ told.verdicts c.args.number prop is
