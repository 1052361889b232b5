use Rattle.std.proofs.Common.{◌≡◌, IfOk, subst, sym, ap, ◌∙◌, to_z, of_z, w64}
use Rattle.std.proofs.lemmas.Int.{to_z-of_z}
use Rattle.sy_core.specs.declared.deed.Deed.{Deed}
use Rattle.sy_core.specs.declared.table.Table.{Table}
use Rattle.sy_core.specs.Tables.{table_as_of}
use Rattle.sy_report.specs.Printing.{IsPrintable}
use Rattle.sy_report.specs.ReportText as reports
use Rattle.sy_run.proofs.Printable.{as_of_is_printable}
use Rattle.sy_run.proofs.log.report.Goals as goal

pub report_text-requires : goal.report_text-requires
report_text-requires g c =
    let followed = c.args.monitor.now in
    let same : to_z w64 (of_z w64 c.args.date) ≡ c.args.date = to_z-of_z w64 c.args.date c.ranges.date in
    let table : c.in_ok-table.table ≡ table_as_of followed.deed followed.happened c.args.date = c.in_ok-table.ensures.table ∙ ap (table_as_of followed.deed followed.happened) same in
    let printable = as_of_is_printable followed.deed followed.happened c.args.date c.deed.ensures.sound.parts.start_dated c.requires in
    subst (λ (d : Deed). IsPrintable d c.in_ok-table.table) (sym c.deed.ensures.deed) (subst (IsPrintable followed.deed) (sym table) printable)

pub returns : goal.returns
returns g c =
    let followed = c.args.monitor.now in
    let same : to_z w64 (of_z w64 c.args.date) ≡ c.args.date = to_z-of_z w64 c.args.date c.ranges.date in
    let table : c.in_ok-table.table ≡ table_as_of followed.deed followed.happened c.args.date = c.in_ok-table.ensures.table ∙ ap (table_as_of followed.deed followed.happened) same in
    subst (λ (t : Table). IfOk c.report_text.result (λ r. r ≡ reports.report_text followed.deed t)) table
    (subst (λ (d : Deed). IfOk c.report_text.result (λ r. r ≡ reports.report_text d c.in_ok-table.table)) c.deed.ensures.deed c.report_text.ensures)
