-- Which comparisons break the rules of types. A guard is one too: what stands on its left is an attribute of which each happening of its event
-- gives a value.
use Rattle.std.specs.Prelude.{ℕ, Bool, true, false, ◌&&◌, nat_eq, List, [], ◌∷◌, ◌++◌, Option, Some, None}
use Rattle.sy_words.specs.declared.comparison.Cmp.{Cmp}
use Rattle.sy_words.specs.declared.comparison.Cmp.TheVariants as C
use Rattle.sy_lex.specs.declared.written.Written.{Written}
use Rattle.sy_tree.specs.declared.term.RhsTree.{RhsTree}
use Rattle.sy_tree.specs.declared.term.TermTree.{TermTree}
use Rattle.sy_tree.specs.declared.proposition.CmpTree.{CmpTree}
use Rattle.sy_tree.specs.declared.proposition.GuardTree.{GuardTree}
use Rattle.sy_domain.specs.declared.failure.Failure.{Failure}
use Rattle.sy_domain.specs.declared.meaning.Sort.{Sort}
use Rattle.sy_domain.specs.declared.meaning.Sort.TheVariants as S
use Rattle.sy_domain.specs.Failures.{unless}
use Rattle.sy_scope.specs.Scopes.{Things, is_value, env_sort, event_sort}
use Rattle.sy_scope.specs.Sorts.{term_sort, rhs_sort}
use Rattle.sy_scope.specs.Tokens.{term_token}
use Rattle.sy_types.specs.Terms.{wrong_term, wrong_rhs}

abbrev pub is_same_sort : Sort → Sort → Bool
is_same_sort S.Number S.Number = true
is_same_sort S.Text S.Text = true
is_same_sort S.Boolean S.Boolean = true
is_same_sort S.Date S.Date = true
is_same_sort (S.Declared m) (S.Declared n) = nat_eq m n
is_same_sort _ _ = false

-- one value of the sort is less than another, or not
abbrev pub is_ordered : Sort → Bool
is_ordered S.Number = true
is_ordered S.Date = true
is_ordered _ = false

-- `=` and `!=` compare values, and the other signs those that are ordered
abbrev pub compares : Things → Cmp → Sort → Bool
compares s C.Eq sort = is_value s sort
compares s C.Ne sort = is_value s sort
compares s _ sort = is_ordered sort

-- a sign can stand between things of two sorts: they are one sort, which it compares
abbrev pub are_comparable : Things → Cmp → Option Sort → Option Sort → Bool
are_comparable s cmp (Some left) (Some right) = is_same_sort left right && compares s cmp left
are_comparable s cmp _ _ = false

-- a comparison, and the terms in it
abbrev pub wrong_comparison : Things → ℕ → TermTree → CmpTree → RhsTree → List Failure
wrong_comparison s visible left cmp right =
    wrong_term s visible left
    ++ wrong_rhs s visible right
    ++ unless (are_comparable s cmp.cmp (term_sort s visible left) (rhs_sort s visible right)) (term_token left)

-- the sort of an attribute of the event that is there
abbrev pub env_sort_of : Things → List ℕ → Option Sort → Option Sort
env_sort_of s name None = None
env_sort_of s name (Some sort) = env_sort s sort name

-- the sort of the attribute that a guard of an event speaks of
abbrev pub guard_sort : Things → Written → GuardTree → Option Sort
guard_sort s event guard = env_sort_of s guard.name.text (event_sort s event.text)

-- a guard of the event with a name, and the terms in it
abbrev pub wrong_guard : Things → ℕ → Written → GuardTree → List Failure
wrong_guard s visible event guard =
    wrong_rhs s visible guard.value
    ++ unless (are_comparable s guard.cmp.cmp (guard_sort s event guard) (rhs_sort s visible guard.value)) guard.name
