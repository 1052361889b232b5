use Rattle.std.proofs.Common.{◌≡◌, fold, take}
use Rattle.sy_events.specs.Events.{put_member}
use Rattle.sy_events.proofs.events.put_members.Given as goal

abbrev pub invariant-member : goal.invariant-member
invariant-member l = l.kinds.entries ≡ fold (put_member l.choice_numbers) l.initial.kinds.entries (take l.i l.members.entries)
