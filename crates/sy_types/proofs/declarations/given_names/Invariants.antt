use Rattle.std.proofs.Common.{◌≡◌, ℕ, List, take}
use Rattle.std.specs.List.{list_any}
use Rattle.sy_domain.specs.Names.{same}
use Rattle.sy_types.specs.Declarations.{given_names}
use Rattle.sy_types.proofs.declarations.given_names.Given as goal

abbrev pub invariant-give : goal.invariant-give
invariant-give l =
    (name : List ℕ) → list_any (same name) l.names.keys ≡ list_any (same name) (given_names (take l.give-index l.gives))
