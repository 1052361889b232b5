-- What a monitor keeps.
use Rattle.std.specs.Prelude.{◌≡◌}
use Rattle.sy_core.specs.declared.deed.Deed.{Deed}
use Rattle.sy_core.specs.Soundness.{IsSound}
use Rattle.sy_story.specs.Narratives.{Narrative}

-- the deed is sound, and the story begins at its start
pub record KeepsWell (deed : Deed) (story : Narrative) : Type 0 where
  pub sound : IsSound deed
  pub start : story.start ≡ deed.start
