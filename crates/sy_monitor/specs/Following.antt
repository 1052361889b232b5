-- A deed that is followed.
use Rattle.std.specs.Prelude.{List}
use Rattle.sy_core.specs.declared.deed.Deed.{Deed}
use Rattle.sy_core.specs.declared.happening.Happening.{Happening}
use Rattle.sy_story.specs.Narratives.{Narrative}

-- a deed, and what happened under it
pub record Followed : Type 0 where
  pub deed : Deed
  -- in which order they stand says nothing
  pub happened : List Happening

-- what happened, from the deed's start on
abbrev pub narrative_of : Followed → Narrative
narrative_of followed = record { start = followed.deed.start; happenings = followed.happened }
