use Rattle.std.proofs.Common.{◌≡◌, map, take}
use Rattle.sy_events.specs.Events.{event_declarations, event_of}
use Rattle.sy_events.proofs.events.all_events.Given as goal

abbrev pub invariant-declaration : goal.invariant-declaration
invariant-declaration l =
    l.list ≡ map (event_of l.scope l.choice_numbers) (event_declarations l.scope (take l.declaration-index l.declarations))
