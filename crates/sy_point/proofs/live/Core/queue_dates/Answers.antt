use Rattle.std.proofs.Common.{rules, ◌≡◌, length, ◌∙◌}
use Rattle.sy_point.proofs.DatesOn.{knows_dates}
use Rattle.sy_point.proofs.live.Core.queue_dates.Goals as goal

pub returns-clause-known : goal.returns-clause-known
returns-clause-known c = λ deed narrative n stands terms known.
    let i = c.loop-term.invariant in
    let end : c.loop-term.term ≡ length c.args.self.now.queued.items = search rules in
    knows_dates c.loop-term.self deed narrative n c.loop-term.term (i.same.terms ∙ terms) (end ∙ terms) (i.known deed narrative n stands terms known)
