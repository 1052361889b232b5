use Rattle.std.proofs.Common.{◌≡◌, ◌++◌, ◌+◌, drop}
use Rattle.sy_report.specs.ReportText as text
use Rattle.sy_report.proofs.report.add_posts.Given as goal

-- what was added and what the rest gives are all the lines
abbrev pub invariant-posts : goal.invariant-posts
invariant-posts l =
    l.out.items ++ text.post_lines (l.i + 1) (drop l.i l.posts) ≡ l.initial.out.items ++ text.post_lines 1 l.posts
