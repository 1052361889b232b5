-- The attributes of an event, type by type along its isA chain.
use Rattle.std.specs.Prelude.{ℕ, List, Option}
use Rattle.std.specs.List.{fold}
use Rattle.sy_core.specs.declared.value.ValueKind.{ValueKind}
use Rattle.sy_domain.specs.Ontologies.{Domain, owned_at}
use Rattle.sy_events.specs.Events.{put_member}

-- some attributes with their kinds, and those that the type with a number has of its own
abbrev pub put_owned : Domain → List (Option ℕ) → List (List ℕ × ValueKind) → ℕ → List (List ℕ × ValueKind)
put_owned domain numbers kinds n = fold (put_member numbers) kinds (owned_at domain n)
