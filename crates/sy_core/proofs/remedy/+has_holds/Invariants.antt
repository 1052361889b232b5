use Rattle.std.proofs.Common.{◌≡◌, drop}
use Rattle.std.specs.List.{list_any}
use Rattle.sy_core.specs.Mentions.{has_holds}
use Rattle.sy_core.proofs.remedy.+has_holds.Given as goal

abbrev pub invariant-loop-part : goal.invariant-loop-part
invariant-loop-part l = list_any has_holds (drop l.part-index l.part-items) ≡ list_any has_holds l.part-items
