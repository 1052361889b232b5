use Rattle.std.proofs.Common.{◌≡◌, length, subst, arith}
use Rattle.sy_chains.specs.Machine.Walks.{AreWalked}
use Rattle.sy_chains.proofs.Climbs.{all_told}
use Rattle.sy_chains.proofs.walks.find_cycles.Goals as goal

pub returns : goal.returns
returns c =
    let l = c.walks in
    let all : l.from ≡ length c.args.bases.now = omega arith in
    all_told c.args.bases.now l.marks.items l.cyclic.items
    (subst (λ from. AreWalked c.args.bases.now from l.marks.items l.cyclic.items) all l.invariant)
