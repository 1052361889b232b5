use Rattle.std.proofs.Common.{◌≡◌, ◌≤◌, ℕ, List, drop, length, slice_get, option_and_then}
use Rattle.std.specs.List.{find}
use Rattle.std.specs.Map.{lookup}
use Rattle.sy_domain.specs.Names.{same}
use Rattle.sy_given.specs.Machine.Places.{is_named}
use Rattle.sy_given.proofs.named.first_places.Given as goal

abbrev pub decreases-left : goal.decreases-left
decreases-left g l = l.i

abbrev pub invariant-left : goal.invariant-left
invariant-left g l =
    (l.i ≤ length l.things)
    × ((name : List ℕ) → option_and_then (slice_get l.things) (lookup (same name) l.places.entries)
    ≡ find (is_named g.T.Named.own_name name) (drop l.i l.things))
