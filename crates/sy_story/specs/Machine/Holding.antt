-- What a story keeps of its happenings.
use Rattle.std.specs.Prelude.{◌≡◌, ◌↔◌, ◌≤◌, ℤ, ◌≤ℤ◌, List, length}
use Rattle.std.specs.List.{Contains}
use Rattle.std.specs.BTreeSet.{BTreeSet}
use Rattle.sy_core.specs.declared.happening.Happening.{Happening}
use Rattle.sy_story.specs.Narratives.{IsOnce, limit}

-- the set has exactly these happenings; each stands once, none is before start, and there are no more than the limit
pub record HoldsWell (start : ℤ) (known : BTreeSet Happening) (happenings : List Happening) : Type 0 where
  pub same : (h : Happening) → Contains known.keys h ↔ Contains happenings h
  pub counted : length known.keys ≡ length happenings
  pub few : length happenings ≤ limit
  pub once : IsOnce happenings
  pub timely : (h : Happening) → Contains happenings h → start ≤ℤ h.point
