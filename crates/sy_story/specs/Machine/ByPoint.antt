-- Lists of happenings by their points.
use Rattle.std.specs.Prelude.{◌≡◌, ◌<◌, ℤ, List, ◌∷◌, ◌++◌, length}
use Rattle.std.specs.List.{AllByRecursion, flat_map}
use Rattle.std.specs.List.Sorted.{IsStrictlySortedBy}
use Rattle.std.specs.Map.{keys_of}
use Rattle.std.specs.Ordering.{int_cmp}
use Rattle.sy_core.specs.declared.happening.Happening.{Happening}

-- all of them, point by point
abbrev pub listed : List (ℤ × List Happening) → List Happening
listed lists = flat_map (λ e. e.1) lists

-- the points ascend, and each has a happening at least, and only its own
pub record IsByPoint (lists : List (ℤ × List Happening)) : Type 0 where
  pub ordered : IsStrictlySortedBy int_cmp (keys_of lists)
  pub dated : AllByRecursion (λ e. AllByRecursion (λ h. h.point ≡ e.0) e.1) lists
  pub some : AllByRecursion (λ e. 0 < length e.1) lists

-- the new happenings are the old ones with this one put in somewhere
pub record IsPutIn (old : List Happening) (happening : Happening) (new : List Happening) : Type 0 where
  pub front : List Happening
  pub back : List Happening
  pub was : old ≡ front ++ back
  pub is : new ≡ front ++ happening ∷ back
