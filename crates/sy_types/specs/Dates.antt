-- Which date terms break the rules of types: a path that begins one is a date, and one that counts a duration is a number.
use Rattle.std.specs.Prelude.{ℕ, Bool, true, false, List, [], Option, Some, None}
use Rattle.sy_tree.specs.declared.term.PathTree.{PathTree}
use Rattle.sy_tree.specs.declared.date.CountTree.{CountTree}
use Rattle.sy_tree.specs.declared.date.CountTree.TheVariants as Count
use Rattle.sy_tree.specs.declared.date.DurationTree.{DurationTree}
use Rattle.sy_domain.specs.declared.failure.Failure.{Failure}
use Rattle.sy_domain.specs.declared.meaning.Sort.{Sort}
use Rattle.sy_domain.specs.declared.meaning.Sort.TheVariants as S
use Rattle.sy_domain.specs.Failures.{unless}
use Rattle.sy_scope.specs.Scopes.{Things, path_sort}
use Rattle.sy_scope.specs.Tokens.{path_token}
use Rattle.sy_types.specs.Terms.{is_number}

-- the sort is that of dates
abbrev pub is_date : Option Sort → Bool
is_date (Some S.Date) = true
is_date _ = false

-- a path that begins a date term
abbrev pub wrong_moment : Things → ℕ → PathTree → List Failure
wrong_moment s visible path = unless (is_date (path_sort s visible path)) (path_token path)

-- how many a duration counts
abbrev pub wrong_count : Things → ℕ → CountTree → List Failure
wrong_count s visible (Count.Number n) = []
wrong_count s visible (Count.Path path) = unless (is_number (path_sort s visible path)) (path_token path)

abbrev pub wrong_duration : Things → ℕ → DurationTree → List Failure
wrong_duration s visible duration = wrong_count s visible duration.count
