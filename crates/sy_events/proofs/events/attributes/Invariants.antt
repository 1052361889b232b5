use Rattle.std.proofs.Common.{◌≡◌, map, take}
use Rattle.sy_events.specs.Events.{attribute}
use Rattle.sy_events.proofs.events.attributes.Given as goal

abbrev pub invariant-attribute : goal.invariant-attribute
invariant-attribute l = l.list ≡ map attribute (take l.i l.kinds.entries)
