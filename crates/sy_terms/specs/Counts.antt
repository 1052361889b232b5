-- The counts of durations.
use Rattle.std.specs.Prelude.{ℕ, ℤ, pos, negsuc, nat_le, if◌then◌else◌, Option, Some, None, option_and_then}
use Rattle.sy_base.specs.declared.time.Measure.{Measure}
use Rattle.sy_base.specs.Measures.{greatest_count}
use Rattle.sy_tree.specs.declared.date.CountTree.{CountTree}
use Rattle.sy_tree.specs.declared.date.CountTree.TheVariants as Count
use Rattle.sy_scope.specs.Scopes.{Things}
use Rattle.sy_given.specs.Bound.{written_number}
use Rattle.sy_terms.specs.Items.{Environment, path_item}
use Rattle.sy_terms.specs.Terms.{number_of}

-- a number as a count of a measure, where it is at least 0 and at most the greatest one
abbrev pub bound_count : Measure → ℤ → Option ℕ
bound_count measure (pos n) = if nat_le n (greatest_count measure) then Some n else None
bound_count measure (negsuc n) = None

-- the number that stands before a measure
abbrev pub count_number : Things → Environment → CountTree → Option ℤ
count_number s e (Count.Number n) = written_number n
count_number s e (Count.Path p) = number_of (path_item s e p)

-- how many of a measure a duration counts
abbrev pub count_of : Things → Environment → Measure → CountTree → Option ℕ
count_of s e measure count = option_and_then (bound_count measure) (count_number s e count)
