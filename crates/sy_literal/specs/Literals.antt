-- What a check finds in the literals of a specification: in what its declarations give, and in all its propositions.
use Rattle.std.specs.Prelude.{List, [], ◌++◌}
use Rattle.std.specs.List.{flat_map}
use Rattle.sy_lex.specs.declared.written.Written.{Written}
use Rattle.sy_tree.specs.declared.date.DurationTree.{DurationTree}
use Rattle.sy_tree.specs.declared.term.RhsTree.{RhsTree}
use Rattle.sy_tree.specs.declared.term.RhsTree.TheVariants as Rhs
use Rattle.sy_tree.specs.declared.term.TermTree.{TermTree}
use Rattle.sy_tree.specs.declared.term.SumTree.{SumTree}
use Rattle.sy_tree.specs.declared.term.FactorTree.{FactorTree}
use Rattle.sy_tree.specs.declared.term.SingleTree.{SingleTree}
use Rattle.sy_tree.specs.declared.proposition.CmpTree.{CmpTree}
use Rattle.sy_tree.specs.declared.proposition.GuardTree.{GuardTree}
use Rattle.sy_spec.specs.declared.contract.SpecTree.{SpecTree}
use Rattle.sy_spec.specs.declared.contract.DeclTree.{DeclTree}
use Rattle.sy_spec.specs.declared.contract.GiveTree.{GiveTree}
use Rattle.sy_domain.specs.declared.failure.Failure.{Failure}
use Rattle.sy_scope.specs.Sorts.{summand}
use Rattle.sy_scope.specs.Walks.{Finds, found_in}

-- where each literal fails
pub record Literals : Type 0 where
  -- a part of a product
  pub single : SingleTree → List Failure
  -- a date that begins a date term
  pub fixed : Written → List Failure
  -- a duration
  pub duration : DurationTree → List Failure

module _ (l : Literals) where
  -- in a product
  abbrev pub factor_literals : FactorTree → List Failure
  factor_literals f = l.single f.first ++ flat_map l.single f.others

  -- in what a sum adds or takes away
  abbrev pub summand_literals : SumTree → List Failure
  summand_literals s = factor_literals (summand s)

  -- in a sum
  abbrev pub term_literals : TermTree → List Failure
  term_literals t = factor_literals t.first ++ flat_map summand_literals t.others

  abbrev pub rhs_literals : RhsTree → List Failure
  rhs_literals (Rhs.Term t) = term_literals t
  rhs_literals (Rhs.Const value place) = []

  -- in the two sides of a comparison
  abbrev pub comparison_literals : TermTree → CmpTree → RhsTree → List Failure
  comparison_literals left cmp right = term_literals left ++ rhs_literals right

  -- in a guard
  abbrev pub guard_literals : Written → GuardTree → List Failure
  guard_literals event guard = rhs_literals guard.value

  -- in the parts of a proposition
  abbrev pub literal_finds : Finds
  literal_finds =
      record {
        comparison = comparison_literals;
        happening = λ name. [];
        guard = guard_literals;
        internal = λ kind place target. [];
        situation = λ situation. [];
        fixed = l.fixed;
        path = λ path. [];
        duration = l.duration;
      }

  -- in what an attribute is given
  abbrev pub give_literals : GiveTree → List Failure
  give_literals give = rhs_literals give.value

  -- in a declaration
  abbrev pub declaration_literals : DeclTree → List Failure
  declaration_literals d = flat_map give_literals d.gives

  -- in a specification
  abbrev pub spec_literals : SpecTree → List Failure
  spec_literals spec =
      flat_map declaration_literals spec.contract.declarations ++ found_in literal_finds spec.contract
