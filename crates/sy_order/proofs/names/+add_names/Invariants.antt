use Rattle.std.proofs.Common.{◌≡◌, ◌++◌, drop}
use Rattle.std.specs.List.{flat_map}
use Rattle.sy_core.specs.Mentions.{names_of}
use Rattle.sy_order.proofs.names.+add_names.Given as goal

-- what was added and what the rest names are all the events
abbrev pub invariant-loop-part : goal.invariant-loop-part
invariant-loop-part l =
    l.names ++ flat_map names_of (drop l.part-index l.part-items) ≡ l.initial.names ++ flat_map names_of l.part-items
