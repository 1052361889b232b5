use Rattle.std.proofs.Common.{◌≡◌, List, ℕ, ℤ, Ok, subst, sym, ap, ◌∙◌, to_z, of_z, w64}
use Rattle.sy_core.specs.Tables.{table_as_of}
use Rattle.sy_atoms.proofs.Dates.{dated_is_passed}
use Rattle.sy_log.specs.declared.read.Entry.{Entry}
use Rattle.sy_log.specs.declared.read.Entry.TheVariants.{Blank, Report}
use Rattle.sy_log.specs.Entries.{IsEntryOf}
use Rattle.sy_report.specs.ReportText.{report_text}
use Rattle.sy_run.specs.Output as o
use Rattle.sy_run.specs.Output.{Goes, IsReply}
use Rattle.sy_run.specs.Machine.Replies.{IsTextOf}
use Rattle.sy_run.proofs.Following.{reported}
use Rattle.sy_run.proofs.log.reply_to.Goals as goal

pub returns-in-Blank-clause-told : goal.returns-in-Blank-clause-told
returns-in-Blank-clause-told g c = λ deed noted follows.
    rw c.in-Blank.is
    (subst (λ (text : List ℕ). IsTextOf c.args.monitor.now deed (IsReply deed noted c.args.number (Ok Blank)) text) (sym c.nothing.ensures)
    (record { noted = noted; given = o.blank; follows = follows }))

pub returns-in_ok-report-in-Report-clause-told : goal.returns-in_ok-report-in-Report-clause-told
returns-in_ok-report-in-Report-clause-told g c = λ deed noted follows.
    let followed = c.args.monitor.now in
    let date : ℤ = c.in-Report.date in
    let dated = subst (λ (e : Entry). IsEntryOf followed.deed e) c.in-Report.is c.requires in
    let same : to_z w64 (of_z w64 date) ≡ date = dated_is_passed followed.deed.unit date dated in
    let text : c.in_ok-report-in-Report.field-0 ≡ report_text deed (table_as_of deed noted date) =
    c.in_ok-report-in-Report.ensures ∙ ap (λ d. report_text followed.deed (table_as_of followed.deed followed.happened d)) same ∙ reported followed deed noted date follows in
    rw c.in-Report.is
    (record {
      noted = noted;
      given = subst (λ (t : List ℕ). IsReply deed noted c.args.number (Ok (Report date)) (Goes t noted)) (sym text) (o.report date);
      follows = follows;
    })
