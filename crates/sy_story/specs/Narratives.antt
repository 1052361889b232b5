-- What a story holds, and what noting a happening comes to.
-- A story holds happenings from its start on, at most 200,000, and each once.
use Rattle.std.specs.Prelude.{◌≡◌, ◌↔◌, ◌⊎◌, ℕ, ◌+◌, ◌<◌, ⊤, ℤ, ◌<ℤ◌, ◌≤ℤ◌, List, [], ◌∷◌, length, filter, Option, Some, None, Result, Ok, Err}
use Rattle.std.specs.List.{Contains}
use Rattle.std.specs.Ordering.{int_eq}
use Rattle.sy_core.specs.declared.happening.Happening.{Happening}
use Rattle.sy_story.specs.declared.story.Noted.{Noted}
use Rattle.sy_story.specs.declared.story.Noted.TheVariants.{New, Known}
use Rattle.sy_story.specs.declared.story.StoryFault.{StoryFault}
use Rattle.sy_story.specs.declared.story.StoryFault.TheVariants.{TooEarly, TooMany, Memory}

-- a story, as contracts see it
pub record Narrative : Type 0 where
  pub start : ℤ
  -- in which order they stand says nothing
  pub happenings : List Happening

-- how many happenings a story may hold
abbrev pub limit : ℕ
limit = 200000

-- none stands twice
abbrev pub IsOnce : List Happening → Type 0
IsOnce [] = ⊤
IsOnce (h ∷ later) = (Contains later h → ⊥) × IsOnce later

-- the new happenings are the old ones and this one, and are one more
pub record HasOneMore (old : List Happening) (happening : Happening) (new : List Happening) : Type 0 where
  pub members : (h : Happening) → Contains new h ↔ (Contains old h ⊎ (h ≡ happening))
  pub count : length new ≡ length old + 1

-- a happening that isn't held, and isn't before the start
pub record IsNews (old : Narrative) (happening : Happening) : Type 0 where
  pub absent : Contains old.happenings happening → ⊥
  pub timely : old.start ≤ℤ happening.point

-- the happening is held from then on
pub record Joins (old : Narrative) (happening : Happening) (new : Narrative) : Type 0 where
  pub start : new.start ≡ old.start
  pub more : HasOneMore old.happenings happening new.happenings

-- what is answered to a happening, and what is held then. All but a new one leave the story as it was
abbrev pub Noting : Narrative → Happening → Narrative → Result Noted StoryFault → Type 0
Noting old happening new (Ok New) = IsNews old happening × (length old.happenings < limit) × Joins old happening new
Noting old happening new (Ok Known) = Contains old.happenings happening × (new ≡ old)
Noting old happening new (Err TooEarly) = (happening.point <ℤ old.start) × (Contains old.happenings happening → ⊥) × (new ≡ old)
Noting old happening new (Err TooMany) = IsNews old happening × (length old.happenings ≡ limit) × (new ≡ old)
Noting old happening new (Err Memory) = new ≡ old

-- those at a point
abbrev pub happenings_at : ℤ → List Happening → List Happening
happenings_at point happenings = filter (λ h. int_eq h.point point) happenings

-- the least point behind this one that has a happening, if one has
abbrev pub IsNextAfter : List Happening → ℤ → Option ℤ → Type 0
IsNextAfter happenings point None = (h : Happening) → Contains happenings h → h.point ≤ℤ point
IsNextAfter happenings point (Some next) =
    (point <ℤ next) × ((h : Happening) × Contains happenings h × (h.point ≡ next))
    × ((h : Happening) → Contains happenings h → (h.point ≤ℤ point) ⊎ (next ≤ℤ h.point))
