use Rattle.std.proofs.Common.{rules, ◌≡◌, ◌+◌, ◌+ℤ◌, ℕ, pos, List, w64, ℤ, to_z, of_z, int_le, ◌&&◌, sym, ◌∙◌, ap, subst, arith}
use Rattle.std.specs.List.{list_any}
use Rattle.std.specs.Ordering.{int_eq}
use Rattle.std.proofs.lemmas.Int.{ints}
use Rattle.sy_core.specs.declared.deed.Deed.{Deed}
use Rattle.sy_core.specs.declared.happening.Happening.{Happening}
use Rattle.sy_core.specs.Chronicle.{chronicle}
use Rattle.sy_core.specs.Wakes.{dates_of_deed, falls_on}
use Rattle.sy_point.specs.Standing.{StandsFor, IsNextWake, IsNotBefore}
use Rattle.sy_point.specs.declared.live.Core.{Core}
use Rattle.sy_point.proofs.NextWake.{fresh_is_next, fresh_at, first_is_next, first_is_later, none_before_first, waiting_at}
use Rattle.sy_point.proofs.live.Core.next_wake.Goals as goal

pub returns-then-self-clause-next : goal.returns-then-self-clause-next
returns-then-self-clause-next c = λ deed narrative n ordered stands untold.
    let passes : to_z w64 (of_z w64 c.args.self.now.point) ≡ c.args.self.now.point = search (rules, ints) in
    fresh_is_next deed ordered.complete narrative n (to_z w64 (of_z w64 c.args.self.now.point)) (passes ∙ stands.at_point) (sym stands.fresh ∙ c.if-self.true)

pub returns-then-self-clause-wakes : goal.returns-then-self-clause-wakes
returns-then-self-clause-wakes c = λ deed narrative n m ordered stands none is.
    let passes : to_z w64 (of_z w64 c.args.self.now.point) ≡ c.args.self.now.point = search (rules, ints) in
    fresh_at deed ordered.complete narrative n m (to_z w64 (of_z w64 c.args.self.now.point)) (passes ∙ stands.at_point) (sym stands.fresh ∙ c.if-self.true) is

pub returns-then-self-clause-later : goal.returns-then-self-clause-later
returns-then-self-clause-later c = λ deed narrative n ordered stands.
    let passes : to_z w64 (of_z w64 c.args.self.now.point) ≡ c.args.self.now.point = search (rules, ints) in
    omega (arith, ints, passes, stands.at_point)

-- the dates that wait, by the number of the point
waits : (core : Core) (deed : Deed) (narrative : List Happening) (n : ℕ) → StandsFor core deed narrative n → (value : ℤ) → list_any (λ p. int_eq value p) core.queue.points ≡ (int_le (deed.start +ℤ pos n) value && list_any (falls_on deed.unit value (chronicle deed narrative n)) (dates_of_deed deed))
waits core deed narrative n stands value = stands.dates.waiting value ∙ ap (λ p. int_le p value && list_any (falls_on deed.unit value (chronicle deed narrative n)) (dates_of_deed deed)) stands.at_point

pub returns-else-self-clause-next : goal.returns-else-self-clause-next
returns-else-self-clause-next c = λ deed narrative n ordered stands untold.
    subst (IsNextWake deed narrative n) (sym c.least.ensures.first)
    (first_is_next deed ordered.complete narrative n c.args.self.now.queue.points (waits c.args.self.now deed narrative n stands) c.least.ensures.ascending (sym stands.fresh ∙ c.if-self.false) untold)

pub returns-else-self-clause-none : goal.returns-else-self-clause-none
returns-else-self-clause-none c = λ deed narrative n m ordered stands untold later.
    none_before_first deed ordered.complete narrative n m c.args.self.now.queue.points (waits c.args.self.now deed narrative n stands) c.least.ensures.ascending (sym stands.fresh ∙ c.if-self.false) untold
    (subst (IsNotBefore (deed.start +ℤ pos (n + m))) c.least.ensures.first later)

pub returns-else-self-clause-wakes : goal.returns-else-self-clause-wakes
returns-else-self-clause-wakes c = λ deed narrative n m ordered stands none is.
    waiting_at deed ordered.complete narrative n c.args.self.now.queue.points (waits c.args.self.now deed narrative n stands) m c.least.ensures.ascending none (sym c.least.ensures.first ∙ is)

pub returns-else-self-clause-later : goal.returns-else-self-clause-later
returns-else-self-clause-later c = λ deed narrative n ordered stands.
    subst (IsNotBefore (deed.start +ℤ pos n)) (sym c.least.ensures.first)
    (first_is_later deed ordered.complete narrative n c.args.self.now.queue.points (waits c.args.self.now deed narrative n stands) c.least.ensures.ascending)
