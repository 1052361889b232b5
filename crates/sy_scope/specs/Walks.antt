-- What a check finds in the propositions of a specification, by what it finds in each of their parts.
use Rattle.std.specs.Prelude.{List, [], ◌∷◌, ◌++◌, Option, Some, None}
use Rattle.std.specs.List.{flat_map}
use Rattle.sy_base.specs.declared.refusal.Place.{Place}
use Rattle.sy_words.specs.declared.kind.Kind.{Kind}
use Rattle.sy_lex.specs.declared.written.Written.{Written}
use Rattle.sy_tree.specs.declared.term.TermTree.{TermTree}
use Rattle.sy_tree.specs.declared.term.RhsTree.{RhsTree}
use Rattle.sy_tree.specs.declared.term.PathTree.{PathTree}
use Rattle.sy_tree.specs.declared.target.TargetTree.{TargetTree}
use Rattle.sy_tree.specs.declared.date.DateTree.{DateTree}
use Rattle.sy_tree.specs.declared.date.MomentTree.{MomentTree}
use Rattle.sy_tree.specs.declared.date.MomentTree.TheVariants as Moment
use Rattle.sy_tree.specs.declared.date.DurationTree.{DurationTree}
use Rattle.sy_tree.specs.declared.proposition.CmpTree.{CmpTree}
use Rattle.sy_tree.specs.declared.proposition.GuardTree.{GuardTree}
use Rattle.sy_tree.specs.declared.proposition.EventTree.{EventTree}
use Rattle.sy_tree.specs.declared.proposition.EventTree.TheVariants as Event
use Rattle.sy_tree.specs.declared.proposition.SituationTree.{SituationTree}
use Rattle.sy_tree.specs.declared.proposition.PropTree.{PropTree}
use Rattle.sy_tree.specs.declared.proposition.PropTree.TheOpen.{PropTree-F}
use Rattle.sy_tree.specs.declared.proposition.PropTree.TheOpen as P
use Rattle.sy_tree.specs.declared.proposition.PropTree.TheFolds.{fold-PropTree}
use Rattle.sy_spec.specs.declared.position.ObligTree.{ObligTree}
use Rattle.sy_spec.specs.declared.position.PowerTree.{PowerTree}
use Rattle.sy_spec.specs.declared.contract.ContractTree.{ContractTree}
use Rattle.sy_domain.specs.declared.failure.Failure.{Failure}

-- where each part fails
pub record Finds : Type 0 where
  -- a comparison
  pub comparison : TermTree → CmpTree → RhsTree → List Failure
  -- the name of a declared event that is said to happen
  pub happening : Written → List Failure
  -- a guard of the event with a name
  pub guard : Written → GuardTree → List Failure
  -- an internal event: its kind, where it stands, and its target
  pub internal : Kind → Place → TargetTree → List Failure
  -- what is said of a state
  pub situation : SituationTree → List Failure
  -- a date that begins a date term
  pub fixed : Written → List Failure
  -- a path that begins a date term
  pub path : PathTree → List Failure
  -- a duration
  pub duration : DurationTree → List Failure

module _ (f : Finds) where
  -- in an event, in `time` too
  abbrev pub event_finds : EventTree → List Failure
  event_finds (Event.Declared name guards) = f.happening name ++ flat_map (f.guard name) guards
  event_finds (Event.Internal kind place target) = f.internal kind place target

  abbrev pub moment_finds : MomentTree → List Failure
  moment_finds (Moment.Fixed date) = f.fixed date
  moment_finds (Moment.Path path) = f.path path
  moment_finds (Moment.Time place event) = event_finds event

  -- in a date term
  abbrev pub date_finds : DateTree → List Failure
  date_finds date = moment_finds date.moment ++ flat_map f.duration date.plus

  -- in one proposition, with what is found in each part of it in its place
  abbrev pub finds_step : PropTree-F (List Failure) → List Failure
  finds_step (P.Const value first) = []
  finds_step (P.Not part first) = part
  finds_step (P.All parts first) = flat_map (λ part. part) parts
  finds_step (P.Any parts first) = flat_map (λ part. part) parts
  finds_step (P.Compare left cmp right first) = f.comparison left cmp right
  finds_step (P.Happens event first) = event_finds event
  finds_step (P.Before event date first) = event_finds event ++ date_finds date
  finds_step (P.After event date first) = event_finds event ++ date_finds date
  finds_step (P.Within event from to first) = event_finds event ++ date_finds from ++ date_finds to
  finds_step (P.Occurs situation from to first) = f.situation situation ++ date_finds from ++ date_finds to
  finds_step (P.Holds situation first) = f.situation situation

  -- in a proposition
  abbrev pub finds : PropTree → List Failure
  finds = fold-PropTree (List Failure) finds_step

-- a trigger, where it isn't left out
abbrev pub written_trigger : Option PropTree → List PropTree
written_trigger None = []
written_trigger (Some trigger) = trigger ∷ []

abbrev pub obligation_propositions : ObligTree → List PropTree
obligation_propositions o = written_trigger o.trigger ++ o.antecedent ∷ o.consequent ∷ []

abbrev pub power_propositions : PowerTree → List PropTree
power_propositions p = written_trigger p.trigger ++ p.antecedent ∷ []

-- all propositions of a contract
abbrev pub propositions : ContractTree → List PropTree
propositions contract =
    contract.preconditions ++ contract.postconditions
    ++ flat_map obligation_propositions contract.obligations
    ++ flat_map obligation_propositions contract.surviving
    ++ flat_map power_propositions contract.powers
    ++ contract.constraints

-- where the propositions of a contract fail
abbrev pub found_in : Finds → ContractTree → List Failure
found_in f contract = flat_map (finds f) (propositions contract)
