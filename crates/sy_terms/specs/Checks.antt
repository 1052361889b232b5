-- The checks of a binding that need the values of terms, in their order. Each is made over the whole specification.
use Rattle.std.specs.Prelude.{codes, List, [], ◌∷◌, Option, Some, None}
use Rattle.std.specs.List.{flat_map}
use Rattle.sy_base.specs.declared.refusal.FaultName.{FaultName}
use Rattle.sy_base.specs.declared.refusal.FaultName.TheVariants as Fault
use Rattle.sy_base.specs.declared.refusal.Place.{Place}
use Rattle.sy_lex.specs.declared.written.Written.{Written}
use Rattle.sy_tree.specs.declared.proposition.First.{First}
use Rattle.sy_tree.specs.declared.proposition.PropTree.{PropTree}
use Rattle.sy_tree.specs.declared.proposition.PropTree.TheOpen.{PropTree-F}
use Rattle.sy_tree.specs.declared.proposition.PropTree.TheOpen as P
use Rattle.sy_tree.specs.declared.proposition.PropTree.TheViews.{out-PropTree}
use Rattle.sy_spec.specs.declared.contract.SpecTree.{SpecTree}
use Rattle.sy_domain.specs.declared.failure.Failure.{Failure}
use Rattle.sy_domain.specs.Failures.{Check, of_spec, unless}
use Rattle.sy_scope.specs.Scopes.{Things}
use Rattle.sy_scope.specs.Tokens.{written}
use Rattle.sy_terms.specs.Items.{Environment}
use Rattle.sy_terms.specs.Conditions.{holds}
use Rattle.sy_terms.specs.Ranges.{out_of_range}

-- how a proposition begins
abbrev pub first_in : PropTree-F PropTree → First
first_in (P.Const value first) = first
first_in (P.Not part first) = first
first_in (P.All parts first) = first
first_in (P.Any parts first) = first
first_in (P.Compare left cmp right first) = first
first_in (P.Happens event first) = first
first_in (P.Before event date first) = first
first_in (P.After event date first) = first
first_in (P.Within event from to first) = first
first_in (P.Occurs situation from to first) = first
first_in (P.Holds situation first) = first

abbrev pub first_of : PropTree → First
first_of tree = first_in (out-PropTree tree)

-- the outermost bracket, and where there is none the token behind it
abbrev pub bracket_or : Option Place → Written → Written
bracket_or (Some place) token = written (codes "(") place
bracket_or None token = token

-- the first token of a proposition, the brackets round the whole included
abbrev pub first_token : First → Written
first_token first = bracket_or first.bracket first.token

abbrev pub proposition_token : PropTree → Written
proposition_token tree = first_token (first_of tree)

-- a condition that is false
abbrev pub false_condition : Things → Environment → PropTree → List Failure
false_condition s e condition = unless (holds s e condition) (proposition_token condition)

-- a condition is false: at its first token
abbrev pub none_false : FaultName → Things → Environment → List PropTree → Check
none_false name s e conditions = of_spec name (flat_map (false_condition s e) conditions)

-- a term lies outside its range: at its first token
abbrev pub terms_in_range : Things → Environment → SpecTree → Check
terms_in_range s e spec = of_spec Fault.NumberOutOfRange (out_of_range s e spec)

-- a precondition is false: at its first token
abbrev pub preconditions_hold : Things → Environment → SpecTree → Check
preconditions_hold s e spec = none_false Fault.PreconditionFalse s e spec.contract.preconditions

-- a constraint is false: at its first token
abbrev pub constraints_hold : Things → Environment → SpecTree → Check
constraints_hold s e spec = none_false Fault.ConstraintFalse s e spec.contract.constraints

-- the checks, in their order
abbrev pub binding_values_checks : Things → Environment → SpecTree → List Check
binding_values_checks s e spec = terms_in_range s e spec ∷ preconditions_hold s e spec ∷ constraints_hold s e spec ∷ []
