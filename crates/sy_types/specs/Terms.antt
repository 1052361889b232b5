-- Which terms break the rules of types: `*`, `+` and `-` take numbers.
use Rattle.std.specs.Prelude.{ℕ, Bool, true, false, ◌&&◌, List, [], ◌∷◌, ◌++◌, Option, Some, None}
use Rattle.std.specs.List.{flat_map, list_all}
use Rattle.sy_tree.specs.declared.term.RhsTree.{RhsTree}
use Rattle.sy_tree.specs.declared.term.RhsTree.TheVariants as Rhs
use Rattle.sy_tree.specs.declared.term.TermTree.{TermTree}
use Rattle.sy_tree.specs.declared.term.SumTree.{SumTree}
use Rattle.sy_tree.specs.declared.term.FactorTree.{FactorTree}
use Rattle.sy_tree.specs.declared.term.SingleTree.{SingleTree}
use Rattle.sy_domain.specs.declared.failure.Failure.{Failure}
use Rattle.sy_domain.specs.declared.meaning.Sort.{Sort}
use Rattle.sy_domain.specs.declared.meaning.Sort.TheVariants as S
use Rattle.sy_domain.specs.Failures.{unless}
use Rattle.sy_scope.specs.Scopes.{Things}
use Rattle.sy_scope.specs.Sorts.{single_sort, factor_sort, summand}
use Rattle.sy_scope.specs.Tokens.{factor_token, term_token}

-- the sort is that of numbers. What nothing is known of is none
abbrev pub is_number : Option Sort → Bool
is_number (Some S.Number) = true
is_number _ = false

-- a part of a product is a number
abbrev pub is_number_part : Things → ℕ → SingleTree → Bool
is_number_part s visible part = is_number (single_sort s visible part)

-- the same of a further part of a sum
abbrev pub is_number_summand : Things → ℕ → SumTree → Bool
is_number_summand s visible sum = is_number (factor_sort s visible (summand sum))

-- each part is a number, where there are several
abbrev pub multiplies_numbers : Things → ℕ → SingleTree → List SingleTree → Bool
multiplies_numbers s visible first [] = true
multiplies_numbers s visible first (other ∷ others) =
    is_number_part s visible first && list_all (is_number_part s visible) (other ∷ others)

-- a product of what isn't all numbers
abbrev pub wrong_product : Things → ℕ → FactorTree → List Failure
wrong_product s visible f = unless (multiplies_numbers s visible f.first f.others) (factor_token f)

-- the same of a further part of a sum
abbrev pub wrong_summand : Things → ℕ → SumTree → List Failure
wrong_summand s visible sum = wrong_product s visible (summand sum)

-- each part is a number, where there are several
abbrev pub adds_numbers : Things → ℕ → FactorTree → List SumTree → Bool
adds_numbers s visible first [] = true
adds_numbers s visible first (other ∷ others) =
    is_number (factor_sort s visible first) && list_all (is_number_summand s visible) (other ∷ others)

-- the products of a term that aren't all of numbers, and the whole term, if it adds what isn't all numbers or takes it away
abbrev pub wrong_term : Things → ℕ → TermTree → List Failure
wrong_term s visible t =
    wrong_product s visible t.first
    ++ flat_map (wrong_summand s visible) t.others
    ++ unless (adds_numbers s visible t.first t.others) (term_token t)

abbrev pub wrong_rhs : Things → ℕ → RhsTree → List Failure
wrong_rhs s visible (Rhs.Term t) = wrong_term s visible t
wrong_rhs s visible (Rhs.Const value place) = []
