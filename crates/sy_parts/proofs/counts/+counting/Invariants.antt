use Rattle.std.proofs.Common.{◌≡◌, ◌-◌, ◌^◌, map, min, take}
use Rattle.std.specs.List.{sum}
use Rattle.sy_core.specs.Limits.{guards_of, size_of}
use Rattle.sy_parts.specs.Counts.{dates_in}
use Rattle.sy_parts.proofs.counts.+counting.Given as goal

abbrev pub invariant-of_all-part : goal.invariant-of_all-part
invariant-of_all-part l =
    (l.counts.propositions ≡ min (sum (map size_of (take l.part-index l.parts))) (2 ^ 64 - 1))
    × (l.counts.guards ≡ min (sum (map guards_of (take l.part-index l.parts))) (2 ^ 64 - 1))
    × (l.counts.dates ≡ min (sum (map dates_in (take l.part-index l.parts))) (2 ^ 64 - 1))
