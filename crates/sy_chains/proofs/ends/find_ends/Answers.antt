use Rattle.std.proofs.Common.{◌≡◌, length, subst, arith}
use Rattle.sy_chains.specs.Machine.Ends.{AreNoted}
use Rattle.sy_chains.proofs.Noted.{all_noted}
use Rattle.sy_chains.proofs.ends.find_ends.Goals as goal

pub returns : goal.returns
returns c =
    let l = c.types in
    let all : l.from ≡ length c.args.bases.now = omega arith in
    all_noted c.args.bases.now l.ends.items (subst (λ from. AreNoted c.args.bases.now from l.ends.items) all l.invariant)
