use Rattle.std.proofs.Common.{◌≡◌, drop}
use Rattle.std.specs.List.{list_any}
use Rattle.sy_core.proofs.Mentions.{is_named}
use Rattle.sy_core.proofs.remedy.+names_violation.Given as goal

abbrev pub invariant-loop-part : goal.invariant-loop-part
invariant-loop-part l =
    list_any (is_named l.violated) (drop l.part-index l.part-items) ≡ list_any (is_named l.violated) l.part-items
