-- The names of positions by their places.
use Rattle.std.specs.Prelude.{ℕ, List, [], Option, Some, None, slice_get}
use Rattle.sy_core.specs.declared.position.Position.{Position}
use Rattle.sy_core.specs.NodeTexts.{name_of}

-- the name of the position at a place
abbrev pub name_at : List Position → Option ℕ → List ℕ
name_at positions None = []
name_at positions (Some i) = name_of (slice_get positions i)
