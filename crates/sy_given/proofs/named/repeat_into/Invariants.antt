use Rattle.std.proofs.Common.{◌≡◌, [], ◌++◌, map, drop}
use Rattle.sy_domain.specs.Names.{repeats}
use Rattle.sy_given.proofs.named.repeat_into.Given as goal

abbrev pub invariant-thing : goal.invariant-thing
invariant-thing g l =
    l.out ++ repeats l.seen.keys (map g.T.Named.own_name (drop l.thing-index l.things))
    ≡ l.initial.out ++ repeats [] (map g.T.Named.own_name l.things)
