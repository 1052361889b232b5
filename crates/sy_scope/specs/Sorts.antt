-- The sorts of terms. A product and a sum count as numbers, also where they are broken.
use Rattle.std.specs.Prelude.{ℕ, List, [], ◌∷◌, Option, Some, None}
use Rattle.sy_tree.specs.declared.term.RhsTree.{RhsTree}
use Rattle.sy_tree.specs.declared.term.RhsTree.TheVariants as Rhs
use Rattle.sy_tree.specs.declared.term.TermTree.{TermTree}
use Rattle.sy_tree.specs.declared.term.SumTree.{SumTree}
use Rattle.sy_tree.specs.declared.term.SumTree.TheVariants as Sum
use Rattle.sy_tree.specs.declared.term.FactorTree.{FactorTree}
use Rattle.sy_tree.specs.declared.term.SingleTree.{SingleTree}
use Rattle.sy_tree.specs.declared.term.SingleTree.TheVariants as Single
use Rattle.sy_domain.specs.declared.meaning.Sort.{Sort}
use Rattle.sy_domain.specs.declared.meaning.Sort.TheVariants as S
use Rattle.sy_scope.specs.Scopes.{Things, path_sort}

-- what a further part of a sum adds or takes away
abbrev pub summand : SumTree → FactorTree
summand (Sum.Plus f) = f
summand (Sum.Minus f) = f

abbrev pub single_sort : Things → ℕ → SingleTree → Option Sort
single_sort s visible (Single.Number n) = Some S.Number
single_sort s visible (Single.Negative place n) = Some S.Number
single_sort s visible (Single.Str t) = Some S.Text
single_sort s visible (Single.Date t) = Some S.Date
single_sort s visible (Single.Path p) = path_sort s visible p

-- the sort of a first part, and that of a number where others follow
abbrev pub alone_or_number : {A : Type 0} → Option Sort → List A → Option Sort
alone_or_number sort [] = sort
alone_or_number sort (other ∷ others) = Some S.Number

abbrev pub factor_sort : Things → ℕ → FactorTree → Option Sort
factor_sort s visible f = alone_or_number (single_sort s visible f.first) f.others

abbrev pub term_sort : Things → ℕ → TermTree → Option Sort
term_sort s visible t = alone_or_number (factor_sort s visible t.first) t.others

abbrev pub rhs_sort : Things → ℕ → RhsTree → Option Sort
rhs_sort s visible (Rhs.Term t) = term_sort s visible t
rhs_sort s visible (Rhs.Const value place) = Some S.Boolean
