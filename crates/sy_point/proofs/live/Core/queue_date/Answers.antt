use Rattle.std.proofs.Common.{rules, ◌≡◌, ◌+◌, Some, None, length, slice_get, slice_set, true, false, ◌≤ℤ◌, int_le, w64, to_z, of_z, refl, sym, ◌∙◌, ap, subst}
use Rattle.std.proofs.lemmas.Int.{ints}
use Rattle.std.proofs.lemmas.Option.{slice_get_read}
use Rattle.sy_queue.specs.Deadlines.{with_point}
use Rattle.sy_point.specs.Machine.Known.{AreKnown, date_values}
use Rattle.sy_point.proofs.DatesOn.{known_to_come, known_gone, not_known, term_at, value_at}
use Rattle.sy_point.proofs.live.Core.queue_date.Goals as goal

pub returns-then-self-value-clause-known : goal.returns-then-self-value-clause-known
returns-then-self-value-clause-known c = λ deed narrative n stands within known.
    let there = term_at deed c.args.term within in
    let value = value_at deed narrative n c.args.term there.0 there.1 in
    let due = c.due.ensures deed narrative n there.0 stands there.1 in
    let off : slice_get c.args.self.now.queued.items c.args.term ≡ Some false = slice_get_read c.args.self.now.queued.items (length c.args.self.now.queued.items) c.args.term c.index.result.now refl c.requires.term c.index.ensures ∙ ap Some c.if-index.false in
    let is : slice_get (date_values deed narrative n) c.args.term ≡ Some (Some c.in-Some.value) = value ∙ ap Some (sym due ∙ c.in-Some.is) in
    let passes : to_z w64 (of_z w64 c.in-Some.value) ≡ c.in-Some.value = search (rules, ints) in
    let later : c.args.self.now.point ≤ℤ c.in-Some.value = search (rules, ints) in
    subst (λ points. AreKnown (slice_set c.args.self.now.queued.items c.args.term true) points c.args.self.now.point (date_values deed narrative n) (c.args.term + 1)) (ap (λ v. with_point v c.args.self.now.queue.points) (sym passes) ∙ sym c.put.ensures.points)
    (known_to_come c.args.self.now.queued.items c.args.self.now.queue.points c.args.self.now.point (date_values deed narrative n) c.args.term known c.in-Some.value off is later)

pub returns-else-self-value-clause-known : goal.returns-else-self-value-clause-known
returns-else-self-value-clause-known c = λ deed narrative n stands within known.
    let there = term_at deed c.args.term within in
    let value = value_at deed narrative n c.args.term there.0 there.1 in
    let due = c.due.ensures deed narrative n there.0 stands there.1 in
    let off : slice_get c.args.self.now.queued.items c.args.term ≡ Some false = slice_get_read c.args.self.now.queued.items (length c.args.self.now.queued.items) c.args.term c.index.result.now refl c.requires.term c.index.ensures ∙ ap Some c.if-index.false in
    let is : slice_get (date_values deed narrative n) c.args.term ≡ Some (Some c.in-Some.value) = value ∙ ap Some (sym due ∙ c.in-Some.is) in
    let gone : int_le c.args.self.now.point c.in-Some.value ≡ false = search (rules, ints) in
    known_gone c.args.self.now.queued.items c.args.self.now.queue.points c.args.self.now.point (date_values deed narrative n) c.args.term known c.in-Some.value off is gone

pub returns-in_default-clause-known : goal.returns-in_default-clause-known
returns-in_default-clause-known c = λ deed narrative n stands within known.
    let there = term_at deed c.args.term within in
    let value = value_at deed narrative n c.args.term there.0 there.1 in
    let due = c.due.ensures deed narrative n there.0 stands there.1 in
    let none : c.due.result ≡ None = search rules in
    not_known c.args.self.now.queued.items c.args.self.now.queue.points c.args.self.now.point (date_values deed narrative n) c.args.term known (value ∙ ap Some (sym due ∙ none))
