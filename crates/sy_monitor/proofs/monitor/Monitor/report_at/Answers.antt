use Rattle.std.proofs.Common.{◌≡◌, IfOk, ℤ, subst, to_z, of_z, w64}
use Rattle.std.proofs.lemmas.Int.{to_z-of_z}
use Rattle.sy_core.specs.Tables.{table_as_of}
use Rattle.sy_monitor.specs.Following.{Followed}
use Rattle.sy_monitor.proofs.monitor.Monitor.report_at.Goals as goal

pub returns-clause-table : goal.returns-clause-table
returns-clause-table g c =
    let m = c.self.inside in
    let same : to_z w64 (of_z w64 c.args.point) ≡ c.args.point = to_z-of_z w64 c.args.point c.ranges.point in
    subst (λ (f : Followed). IfOk c.table_as_of.result (λ t. t ≡ table_as_of f.deed f.happened c.args.point)) c.self.view_is
    (subst (λ (p : ℤ). IfOk c.table_as_of.result (λ t. t ≡ table_as_of m.deed m.story.happenings p)) same c.table_as_of.ensures.table)
