use Rattle.std.proofs.Common.{◌≡◌, ◌-ℤ◌, nat_abs, ◌∙◌, ap, to_z, of_z, w64}
use Rattle.std.proofs.lemmas.Int.{to_z-of_z}
use Rattle.sy_core.specs.Tables.{table_after, table_as_of}
use Rattle.sy_monitor.proofs.Outcomes.{if_ok}
use Rattle.sy_monitor.proofs.Points.{as_of-after, begun}
use Rattle.sy_monitor.proofs.table.table_as_of.Goals as goal

pub returns-else-date-deed-clause-table : goal.returns-else-date-deed-clause-table
returns-else-date-deed-clause-table g c =
    let deed = c.args.deed.now in
    let noted = c.args.story.now.happenings in
    let same : to_z w64 (of_z w64 c.args.date) ≡ c.args.date = to_z-of_z w64 c.args.date c.ranges.date in
    let not_before = begun deed.unit deed.start c.args.date c.requires.sound.parts.start_dated c.requires.dated c.if-date-deed.false in
    if_ok c.table_after.result
    (λ t. t ≡ table_after deed noted (nat_abs (to_z w64 (of_z w64 c.args.date) -ℤ deed.start)))
    (λ t. t ≡ table_as_of deed noted c.args.date)
    (λ t e. e ∙ ap (λ d. table_after deed noted (nat_abs (d -ℤ deed.start))) same ∙ as_of-after deed noted c.args.date not_before)
    c.table_after.ensures.table
