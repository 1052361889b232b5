use Rattle.std.proofs.Common.{◌≡◌, map, drop}
use Rattle.sy_core.specs.Propositions.{lesser, greater, least, greatest}
use Rattle.sy_axioms.specs.Machine.Presents.{verdict_now}
use Rattle.sy_axioms.proofs.verdict.+verdict.Given as goal

abbrev pub invariant-loop-part : goal.invariant-loop-part
invariant-loop-part l =
    let each = verdict_now l.present in
    lesser l.least (least (map each (drop l.part-index l.part-items))) ≡ least (map each l.part-items)

abbrev pub invariant-loop-part-2 : goal.invariant-loop-part-2
invariant-loop-part-2 l =
    let each = verdict_now l.present in
    greater l.greatest (greatest (map each (drop l.part-index l.part-items))) ≡ greatest (map each l.part-items)
