use Rattle.std.proofs.Common.{◌≡◌, ◌++◌, flat_map, map}
use Rattle.std.specs.Map.{keys_of}
use Rattle.sy_domain.specs.Ontologies.{owned_at}
use Rattle.sy_domain.proofs.types.Ontology.name_all.Given as goal

abbrev pub invariant-number : goal.invariant-number
invariant-number l =
    l.out ≡ l.initial.out ++ flat_map (λ n. keys_of (owned_at l.self n)) (map (λ n. n.now) l.yielded)
