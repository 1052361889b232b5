-- What the tables say by which a cycle is found.
use Rattle.std.specs.Prelude.{◌≡◌, ◌<◌, ◌&&◌, ℕ, Bool, false, not, List, Option, None, length, find, slice_index_or}
use Rattle.sy_core.specs.Orders.{numbers_below, is_listed}
use Rattle.sy_strata.specs.Edges.{needs_by}
use Rattle.sy_strata.specs.declared.edge.Edge.{Edge}

-- each node below the count is marked where it isn't listed
pub record MarksRest (count : ℕ) (listed : List ℕ) (marks : List Bool) : Type 0 where
  pub marks_length : length marks ≡ count
  pub marks_are : (k : ℕ) → k < count → slice_index_or marks k false ≡ not (is_listed listed k)

-- a node's least need that is marked
abbrev pub least_marked : List Edge → List Bool → ℕ → ℕ → Option ℕ
least_marked edges marks count node =
    find (λ need. is_listed (needs_by edges node) need && slice_index_or marks need false) (numbers_below count)

-- each node below the count has its least need that is marked
pub record AreLeast (count : ℕ) (edges : List Edge) (marks : List Bool) (least : List (Option ℕ)) : Type 0 where
  pub least_length : length least ≡ count
  pub least_are : (k : ℕ) → k < count → slice_index_or least k None ≡ least_marked edges marks count k
