use Rattle.std.proofs.Common.{◌≡◌, map, take}
use Rattle.sy_typing.specs.Outlines.{happens}
use Rattle.sy_typing.proofs.outline.one_happens.Given as goal

abbrev pub invariant-event : goal.invariant-event
invariant-event l = l.parts ≡ map happens (take l.event-index l.events)
