-- The types that a walk marks.
use Rattle.std.specs.Prelude.{ℕ, not, is_some, get_or, List, None}
use Rattle.sy_spec.specs.declared.domain.TypeTree.{TypeTree}
use Rattle.sy_chains.specs.Machine.Walks.{Marks}
use Rattle.sy_domain.specs.declared.failure.Failure.{Failure}
use Rattle.sy_domain.specs.Failures.{unless}
use Rattle.sy_domain.specs.Chains.{type_name}

-- the name of a numbered type with a mark
abbrev pub marked_name : Marks → ℕ × TypeTree → List Failure
marked_name marks p = unless (not (is_some (get_or marks p.0 None))) (type_name p.1)
