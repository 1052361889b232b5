use Rattle.std.proofs.Common.{◌≡◌, ◌-◌, ◌^◌, min, take}
use Rattle.std.specs.List.{sum_by}
use Rattle.sy_core.specs.Limits.{guards_of, of_position, size_of}
use Rattle.sy_parts.specs.Counts.{dates_in}
use Rattle.sy_parts.proofs.counts.of_positions.Given as goal

abbrev pub invariant-position : goal.invariant-position
invariant-position l =
    (l.counts.propositions ≡ min (sum_by (of_position size_of) (take l.position-index l.positions)) (2 ^ 64 - 1))
    × (l.counts.guards ≡ min (sum_by (of_position guards_of) (take l.position-index l.positions)) (2 ^ 64 - 1))
    × (l.counts.dates ≡ min (sum_by (of_position dates_in) (take l.position-index l.positions)) (2 ^ 64 - 1))
