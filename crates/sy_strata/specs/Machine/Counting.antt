-- What the counters of unmet needs say, and how they are lowered.
use Rattle.std.specs.Prelude.{◌≡◌, not, true, false, ◌==◌, ◌<◌, ◌+◌, ◌-◌, ◌&&◌, ◌||◌, ℕ, List, [], length, slice_index, slice_index_or, slice_set, nat_lt}
use Rattle.std.specs.List.{count_by}
use Rattle.std.specs.Ordering.{nat_cmp}
use Rattle.std.specs.BTreeSet.{BTreeSet, contains}
use Rattle.sy_strata.specs.Edges.{needs_by}
use Rattle.sy_strata.specs.declared.edge.Edge.{Edge}

-- how often a number stands in a list
abbrev pub times : ℕ → List ℕ → ℕ
times number list = count_by (λ other. other == number) list

-- each node has the nodes that need it, and the number of its needs
pub record AreCounted (count : ℕ) (edges : List Edge) (needers : List (List ℕ)) (unmet : List ℕ) : Type 0 where
  pub needers_length : length needers ≡ count
  pub unmet_length : length unmet ≡ count
  pub needers_are : (k m : ℕ) → times k (slice_index_or needers m []) ≡ times m (needs_by edges k)
  pub unmet_are : (k : ℕ) → slice_index unmet k ≡ length (needs_by edges k)

-- the node was the least of the set, which has only the others now
pub record IsLeastTaken (node : ℕ) (old new : BTreeSet ℕ) : Type 0 where
  pub member : contains nat_cmp old node ≡ true
  pub least : (k : ℕ) → k < node → contains nat_cmp old k ≡ false
  pub others : (k : ℕ) → contains nat_cmp new k ≡ (not (node == k) && contains nat_cmp old k)

-- one node's counter is one less, and the node is ready where that is 0
pub record IsLowered (node : ℕ) (old new : List ℕ) (before after : BTreeSet ℕ) : Type 0 where
  pub unmet : new ≡ slice_set old node (slice_index old node - 1)
  pub ready : (k : ℕ) → contains nat_cmp after k ≡ (contains nat_cmp before k || ((node == k) && (slice_index old k == 1)))

-- each node's counter is less by as often as it is told, and those of them that come to 0 are ready
pub record AreMet (needers old new : List ℕ) (before after : BTreeSet ℕ) : Type 0 where
  pub unmet_length : length new ≡ length old
  pub unmet : (k : ℕ) → slice_index new k + times k needers ≡ slice_index old k
  pub ready : (k : ℕ) → contains nat_cmp after k ≡ (contains nat_cmp before k || (nat_lt 0 (times k needers) && (slice_index new k == 0)))
