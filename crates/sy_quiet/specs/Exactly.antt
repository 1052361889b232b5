-- What a narrative has at a point, as another list of happenings.
use Rattle.std.specs.Prelude.{◌≡◌, ℤ, List}
use Rattle.std.specs.List.{Contains}
use Rattle.sy_core.specs.declared.happening.Happening.{Happening}

-- the narrative has these happenings at the point, and no others there
pub record HasExactly (narrative : List Happening) (point : ℤ) (at : List Happening) : Type 0 where
  pub given : (h : Happening) → Contains at h → Contains narrative h × (h.point ≡ point)
  pub all : (h : Happening) → Contains narrative h → h.point ≡ point → Contains at h
