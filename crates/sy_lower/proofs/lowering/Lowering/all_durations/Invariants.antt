use Rattle.std.proofs.Common.{◌≡◌, drop, map}
use Rattle.sy_lower.specs.Dates.{duration_of}
use Rattle.sy_lower.specs.Parts.{all_there}
use Rattle.sy_lower.proofs.Gathering.{gathered}
use Rattle.sy_lower.proofs.lowering.Lowering.all_durations.Given as goal

abbrev pub invariant-tree : goal.invariant-tree
invariant-tree l =
    all_there (map (duration_of l.self.things l.self.environment) l.trees)
    ≡ gathered (duration_of l.self.things l.self.environment) l.list (drop l.tree-index l.trees)
