-- The names of paths and terms that aren't declared for their place. So many first declarations may be named.
use Rattle.std.specs.Prelude.{ℕ, is_some, List, [], ◌++◌, Option, Some, None}
use Rattle.std.specs.List.{flat_map}
use Rattle.sy_lex.specs.declared.written.Written.{Written}
use Rattle.sy_tree.specs.declared.term.RhsTree.{RhsTree}
use Rattle.sy_tree.specs.declared.term.RhsTree.TheVariants as Rhs
use Rattle.sy_tree.specs.declared.term.TermTree.{TermTree}
use Rattle.sy_tree.specs.declared.term.SumTree.{SumTree}
use Rattle.sy_tree.specs.declared.term.FactorTree.{FactorTree}
use Rattle.sy_tree.specs.declared.term.SingleTree.{SingleTree}
use Rattle.sy_tree.specs.declared.term.SingleTree.TheVariants as Single
use Rattle.sy_tree.specs.declared.term.PathTree.{PathTree}
use Rattle.sy_tree.specs.declared.term.PathTree.TheVariants as Path
use Rattle.sy_tree.specs.declared.date.CountTree.{CountTree}
use Rattle.sy_tree.specs.declared.date.CountTree.TheVariants as Count
use Rattle.sy_tree.specs.declared.date.DurationTree.{DurationTree}
use Rattle.sy_domain.specs.declared.failure.Failure.{Failure}
use Rattle.sy_domain.specs.declared.meaning.Sort.{Sort}
use Rattle.sy_domain.specs.Failures.{unless}
use Rattle.sy_scope.specs.Scopes.{Things, thing_sort, plain_sort, attribute_sort}
use Rattle.sy_scope.specs.Sorts.{summand}

-- a name where a thing is named, that is no parameter, no constant and none of the declarations that may be named
abbrev pub unknown_thing : Things → ℕ → Written → List Failure
unknown_thing s visible name = unless (is_some (thing_sort s visible name.text)) name

-- a name that is no attribute of a thing of the sort, or is an Env one. Of a thing that isn't known nothing is said: its name stands before
abbrev pub unknown_attribute : Things → Option Sort → Written → List Failure
unknown_attribute s None name = []
unknown_attribute s (Some sort) name = unless (is_some (plain_sort s sort name.text)) name

-- in `x`, in `x.a` and in `x.a.b`
abbrev pub unknown_in_path : Things → ℕ → PathTree → List Failure
unknown_in_path s visible (Path.Name x) = unknown_thing s visible x
unknown_in_path s visible (Path.Attribute x a) =
    unknown_thing s visible x
    ++ unknown_attribute s (thing_sort s visible x.text) a
unknown_in_path s visible (Path.Inner x a b) =
    unknown_thing s visible x
    ++ unknown_attribute s (thing_sort s visible x.text) a
    ++ unknown_attribute s (attribute_sort s a.text (thing_sort s visible x.text)) b

abbrev pub unknown_in_single : Things → ℕ → SingleTree → List Failure
unknown_in_single s visible (Single.Path path) = unknown_in_path s visible path
unknown_in_single s visible _ = []

-- in a product
abbrev pub unknown_in_factor : Things → ℕ → FactorTree → List Failure
unknown_in_factor s visible f = unknown_in_single s visible f.first ++ flat_map (unknown_in_single s visible) f.others

abbrev pub unknown_in_summand : Things → ℕ → SumTree → List Failure
unknown_in_summand s visible sum = unknown_in_factor s visible (summand sum)

-- in a sum
abbrev pub unknown_in_term : Things → ℕ → TermTree → List Failure
unknown_in_term s visible t = unknown_in_factor s visible t.first ++ flat_map (unknown_in_summand s visible) t.others

-- on the right of a comparison, and in what an attribute is given
abbrev pub unknown_in_rhs : Things → ℕ → RhsTree → List Failure
unknown_in_rhs s visible (Rhs.Term t) = unknown_in_term s visible t
unknown_in_rhs s visible (Rhs.Const value place) = []

abbrev pub unknown_in_count : Things → ℕ → CountTree → List Failure
unknown_in_count s visible (Count.Path path) = unknown_in_path s visible path
unknown_in_count s visible (Count.Number n) = []

-- in a duration
abbrev pub unknown_in_duration : Things → ℕ → DurationTree → List Failure
unknown_in_duration s visible duration = unknown_in_count s visible duration.count
