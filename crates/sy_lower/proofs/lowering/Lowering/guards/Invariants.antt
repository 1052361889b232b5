use Rattle.std.proofs.Common.{◌≡◌, drop, map}
use Rattle.sy_lower.specs.Events.{guard_of}
use Rattle.sy_lower.specs.Parts.{all_there}
use Rattle.sy_lower.proofs.Gathering.{gathered}
use Rattle.sy_lower.proofs.lowering.Lowering.guards.Given as goal

abbrev pub invariant-guard : goal.invariant-guard
invariant-guard l =
    all_there (map (guard_of l.self l.kinds.entries) l.guards)
    ≡ gathered (guard_of l.self l.kinds.entries) l.list (drop l.guard-index l.guards)
