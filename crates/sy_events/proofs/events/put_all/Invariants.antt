use Rattle.std.proofs.Common.{◌≡◌, fold, map}
use Rattle.sy_events.specs.Machine.Owned.{put_owned}
use Rattle.sy_events.proofs.events.put_all.Given as goal

abbrev pub invariant-number : goal.invariant-number
invariant-number l =
    l.kinds.entries ≡ fold (put_owned l.ontology l.choice_numbers) l.initial.kinds.entries (map (λ n. n.now) l.yielded)
