use Rattle.std.proofs.Common.{◌≡◌, ◌+◌, suc, length, Some, sym, ap, ◌∙◌, arith}
use Rattle.sy_chains.specs.Chains.{base_at, chain_end}
use Rattle.sy_chains.specs.Machine.Walks.{up}
use Rattle.sy_chains.proofs.Noted.{end_at_last, end_of_base}
use Rattle.sy_chains.proofs.Ups.{up_last}
use Rattle.sy_chains.proofs.ends.find_end.Goals as goal

pub climb-preserved : goal.climb-preserved
climb-preserved c =
    let bases = c.args.bases.now in
    let l = c.climb in
    let base = c.in-Some-base_at.base in
    let is : base_at bases l.at ≡ Some base = sym c.base_at.ensures ∙ c.in-Some-base_at.is in (
      ap (λ j. up bases j c.args.from) (let z : l.k + 1 ≡ suc l.k = omega arith in z)
          ∙ up_last bases l.k c.args.from l.at l.invariant.0 ∙ is,
      l.invariant.1 ∙ end_of_base bases l.at base c.requires.none is,
    )

pub returns : goal.returns
returns c =
    let l = c.climb in
    let all : l.k ≡ length c.args.bases.now = omega arith in
    sym (l.invariant.1 ∙ end_at_last c.args.bases.now c.args.from l.at l.k c.requires.none all l.invariant.0)
