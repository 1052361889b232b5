-- The terms of a specification that lie outside their range under a binding: a term without a value, and a path before a measure that gives no
-- count of it. The numbers that are written before measures are seen without a binding.
use Rattle.std.specs.Prelude.{is_some, List, [], ◌++◌}
use Rattle.std.specs.List.{flat_map}
use Rattle.sy_base.specs.declared.time.Measure.{Measure}
use Rattle.sy_tree.specs.declared.date.DurationTree.{DurationTree}
use Rattle.sy_tree.specs.declared.date.CountTree.{CountTree}
use Rattle.sy_tree.specs.declared.date.CountTree.TheVariants as Count
use Rattle.sy_tree.specs.declared.term.PathTree.{PathTree}
use Rattle.sy_tree.specs.declared.term.RhsTree.{RhsTree}
use Rattle.sy_tree.specs.declared.term.RhsTree.TheVariants as Rhs
use Rattle.sy_tree.specs.declared.term.TermTree.{TermTree}
use Rattle.sy_spec.specs.declared.contract.SpecTree.{SpecTree}
use Rattle.sy_spec.specs.declared.contract.DeclTree.{DeclTree}
use Rattle.sy_spec.specs.declared.contract.GiveTree.{GiveTree}
use Rattle.sy_domain.specs.declared.failure.Failure.{Failure}
use Rattle.sy_domain.specs.Failures.{unless}
use Rattle.sy_scope.specs.Scopes.{Things}
use Rattle.sy_scope.specs.Tokens.{path_token, term_token}
use Rattle.sy_scope.specs.Walks.{Finds, found_in}
use Rattle.sy_terms.specs.Items.{Environment}
use Rattle.sy_terms.specs.Terms.{term_item}
use Rattle.sy_terms.specs.Counts.{count_of}

module _ (s : Things) (e : Environment) where
  -- a term without a value
  abbrev pub out_of_range_term : TermTree → List Failure
  out_of_range_term t = unless (is_some (term_item s e t)) (term_token t)

  abbrev pub out_of_range_rhs : RhsTree → List Failure
  out_of_range_rhs (Rhs.Term t) = out_of_range_term t
  out_of_range_rhs (Rhs.Const value place) = []

  -- a path that gives no count of a measure
  abbrev pub out_of_range_path : Measure → PathTree → List Failure
  out_of_range_path measure p = unless (is_some (count_of s e measure (Count.Path p))) (path_token p)

  abbrev pub out_of_range_count : Measure → CountTree → List Failure
  out_of_range_count measure (Count.Number n) = []
  out_of_range_count measure (Count.Path p) = out_of_range_path measure p

  abbrev pub out_of_range_duration : DurationTree → List Failure
  out_of_range_duration d = out_of_range_count d.measure.measure d.count

  -- in the parts of a proposition
  abbrev pub out_of_range_parts : Finds
  out_of_range_parts =
      record {
        comparison = λ left cmp right. out_of_range_term left ++ out_of_range_rhs right;
        happening = λ name. [];
        guard = λ event guard. out_of_range_rhs guard.value;
        internal = λ kind place target. [];
        situation = λ situation. [];
        fixed = λ date. [];
        path = λ path. [];
        duration = out_of_range_duration;
      }

  -- in what an attribute is given
  abbrev pub out_of_range_give : GiveTree → List Failure
  out_of_range_give give = out_of_range_rhs give.value

  -- in a declaration
  abbrev pub out_of_range_declaration : DeclTree → List Failure
  out_of_range_declaration d = flat_map out_of_range_give d.gives

  -- in a specification
  abbrev pub out_of_range : SpecTree → List Failure
  out_of_range spec =
      flat_map out_of_range_declaration spec.contract.declarations ++ found_in out_of_range_parts spec.contract
