use Rattle.std.proofs.Common.{◌≡◌, ◌-◌, length, flat_map}
use Rattle.std.specs.Map.{lookup}
use Rattle.sy_chains.specs.Chains.{chain}
use Rattle.sy_domain.specs.Names.{same}
use Rattle.sy_domain.specs.Ontologies.{inherited, owned_at}
use Rattle.sy_domain.proofs.types.Ontology.inherited.Given as goal

abbrev pub invariant-steps : goal.invariant-steps
invariant-steps l =
    lookup (same l.name) (inherited l.self l.number)
    ≡ lookup (same l.name) (flat_map (owned_at l.self) (chain l.bases (length l.bases - l.k) l.at))
