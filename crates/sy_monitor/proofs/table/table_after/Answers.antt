use Rattle.std.proofs.Common.{◌≡◌, ℕ, suc, ◌+ℤ◌, ◌-ℤ◌, ℤ, pos, nat_abs, sym, ◌∙◌, subst, to_z, of_z, w64}
use Rattle.std.proofs.lemmas.Int.{to_z-of_z}
use Rattle.sy_monitor.specs.Machine.Coming.{HasCome}
use Rattle.sy_monitor.proofs.Points.{reached}
use Rattle.sy_monitor.proofs.table.table_after.Goals as goal

pub returns-clause-table : goal.returns-clause-table
returns-clause-table g c =
    let deed = c.args.deed.now in
    let noted = c.args.story.now.happenings in
    let n : ℕ = nat_abs (c.args.date -ℤ deed.start) in
    let same : to_z w64 (of_z w64 c.args.date) ≡ c.args.date = to_z-of_z w64 c.args.date c.ranges.date in
    let come = subst (λ (p : ℤ). HasCome c.in_ok-core.field-0 deed noted (suc (nat_abs (p -ℤ deed.start)))) same c.in_ok-core.ensures.come in
    let made = c.in_ok-core.ensures.made in
    let at : to_z w64 (of_z w64 c.args.date) ≡ deed.start +ℤ pos n = same ∙ sym (reached deed.start c.args.date c.requires.begun) in
    let contract = c.state.ensures deed noted (suc n) made come.stands in
    let states = c.in_ok-states.ensures noted (suc n) come.stands in
    let posts = c.in_ok-verdicts.ensures noted n come.stands in
    let violations = c.violations.view_is ∙ come.violations in
    let voids = c.voids.view_is ∙ come.voids in
    λ j. record { at = at j; contract = contract j; states = states j; violations = violations j; voids = voids j; posts = posts j }
