use Rattle.std.proofs.Common.{◌≡◌, map, take}
use Rattle.sy_events.specs.Events.{event_declarations, kinds_of_event}
use Rattle.sy_events.proofs.events.all_kinds.Given as goal

abbrev pub invariant-declaration : goal.invariant-declaration
invariant-declaration l =
    map (λ m. m.entries) l.tables.items
    ≡ map (kinds_of_event l.scope l.choice_numbers) (event_declarations l.scope (take l.declaration-index l.declarations))
