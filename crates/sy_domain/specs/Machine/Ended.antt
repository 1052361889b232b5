-- The kinds of types, by the ends that are noted of their chains.
use Rattle.std.specs.Prelude.{ℕ, get_or, slice_get, List, Option, Some, None, option_and_then}
use Rattle.sy_spec.specs.declared.domain.TypeTree.{TypeTree}
use Rattle.sy_spec.specs.declared.domain.TypeTree.TheVariants as AType
use Rattle.sy_chains.specs.Machine.Walks.{Marks}
use Rattle.sy_domain.specs.declared.types.TypeKind.{TypeKind}
use Rattle.sy_domain.specs.declared.types.TypeKind.TheVariants as Kind
use Rattle.sy_domain.specs.Ontologies.{end_kind}

-- the kind of a numbered type
abbrev pub noted_kind : List TypeTree → Marks → ℕ × TypeTree → Option TypeKind
noted_kind types ends (n, AType.Enumeration name e) = Some Kind.Enumeration
noted_kind types ends (n, AType.Derived name base attributes) =
    end_kind (option_and_then (slice_get types) (get_or ends n None))
