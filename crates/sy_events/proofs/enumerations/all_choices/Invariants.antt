use Rattle.std.proofs.Common.{◌≡◌, flat_map, take}
use Rattle.sy_events.specs.Enumerations.{choices_of_type}
use Rattle.sy_events.proofs.enumerations.all_choices.Given as goal

abbrev pub invariant-tree : goal.invariant-tree
invariant-tree l = l.choices ≡ flat_map choices_of_type (take l.tree-index l.types)
