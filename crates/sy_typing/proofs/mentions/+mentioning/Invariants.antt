use Rattle.std.proofs.Common.{◌≡◌, ◌++◌, flat_map, map, take}
use Rattle.sy_typing.specs.Outlines.{mentions}
use Rattle.sy_typing.proofs.mentions.+mentioning.Given as goal

abbrev pub invariant-add_each-part : goal.invariant-add_each-part
invariant-add_each-part l =
    l.out ≡ l.initial.out ++ flat_map (λ part. part) (map (mentions l.ontology.table l.contract) (take l.part-index l.parts))
