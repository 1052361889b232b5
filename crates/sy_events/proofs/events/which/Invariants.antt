use Rattle.std.proofs.Common.{◌≡◌, map, take}
use Rattle.sy_events.specs.Events.{declares_event}
use Rattle.sy_events.proofs.events.which.Given as goal

abbrev pub invariant-declaration : goal.invariant-declaration
invariant-declaration l = l.meant ≡ map (declares_event l.scope) (take l.declaration-index l.declarations)
