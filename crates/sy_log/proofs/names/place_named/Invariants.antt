use Rattle.std.proofs.Common.{◌≡◌, drop}
use Rattle.std.specs.List.{position_from}
use Rattle.sy_log.proofs.names.place_named.Given as goal

abbrev pub invariant-thing : goal.invariant-thing
invariant-thing g l =
    position_from (g.T.Named.has_name l.name) l.i (drop l.i l.things) ≡ position_from (g.T.Named.has_name l.name) 0 l.things
