use Rattle.std.proofs.Common.{length, sym, ◌∙◌, ap, subst, arith}
use Rattle.sy_strata.specs.Edges.{needs_by, IsCircle}
use Rattle.sy_strata.proofs.Circles.{needs_below, named_is_circle}
use Rattle.sy_strata.proofs.listing.order.Goals as goal

pub returns-in_ok-cycle-clause-circle : goal.returns-in_ok-cycle-clause-circle
returns-in_ok-cycle-clause-circle c =
    let edges = c.args.edges.now in
    let n = c.args.n in
    let is = ap length (c.items.ensures ∙ c.in_ok-list.ensures) in
    subst (IsCircle (needs_by edges)) (sym c.in_ok-cycle.ensures) (named_is_circle (needs_by edges) n (needs_below n edges c.requires.ends) (λ acyclic. absurd (omega (arith, c.if-items-n.false, is, acyclic))))
