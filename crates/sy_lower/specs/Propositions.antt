-- Propositions as those of a deed. A comparison becomes true or false. An atom that breaks a rule of names, types or ranges is refused by a check;
-- here it says that one of the internal events that it names happens, so that the order of evaluation doesn't go by it.
use Rattle.std.specs.Prelude.{ℕ, true, List, [], ◌++◌, Option, Some, None, option_map}
use Rattle.sy_core.specs.declared.date_term.DateTerm.{DateTerm}
use Rattle.sy_core.specs.declared.event.Ev.{Ev}
use Rattle.sy_core.specs.declared.proposition.Situation.{Situation}
use Rattle.sy_core.specs.declared.proposition.Prop.{Prop}
use Rattle.sy_core.specs.declared.proposition.Prop.TheVariants as Prop
use Rattle.sy_core.specs.Mentions.{InternalEvent}
use Rattle.sy_tree.specs.declared.date.DateTree.{DateTree}
use Rattle.sy_tree.specs.declared.proposition.EventTree.{EventTree}
use Rattle.sy_tree.specs.declared.proposition.SituationTree.{SituationTree}
use Rattle.sy_tree.specs.declared.proposition.PropTree.{PropTree}
use Rattle.sy_tree.specs.declared.proposition.PropTree.TheOpen.{PropTree-F}
use Rattle.sy_tree.specs.declared.proposition.PropTree.TheOpen as P
use Rattle.sy_tree.specs.declared.proposition.PropTree.TheFolds.{fold-PropTree}
use Rattle.sy_typing.specs.Outlines.{date_mentions, event_mentions, mentions, one_happens}
use Rattle.sy_terms.specs.Conditions.{comparison_holds}
use Rattle.sy_lower.specs.Basis.{Basis}
use Rattle.sy_lower.specs.Dates.{date_term}
use Rattle.sy_lower.specs.Events.{event_of, situation_of}

-- an atom, or that one of its events happens
abbrev pub atom_or : List InternalEvent → Option Prop → Prop
atom_or events (Some atom) = atom
atom_or events None = one_happens events

-- two things, where both are there
abbrev pub pair : {A B : Type 0} → Option A → Option B → Option (A × B)
pair (Some a) (Some b) = Some (a, b)
pair _ _ = None

module _ (b : Basis) where
  abbrev pub event : EventTree → Option Ev
  event = event_of b

  abbrev pub date : DateTree → Option DateTerm
  date = date_term b

  abbrev pub situation : SituationTree → Option Situation
  situation = situation_of b

  -- the internal events that a proposition names
  abbrev pub events_of : PropTree → List InternalEvent
  events_of = mentions b.things.domain.table b.contract

  abbrev pub named : EventTree → List InternalEvent
  named = event_mentions b.things.domain.table b.contract

  abbrev pub dated : DateTree → List InternalEvent
  dated = date_mentions b.things.domain.table b.contract

  -- the atoms
  abbrev pub happening : EventTree → Option Prop
  happening ev = option_map (λ x. Prop.Happens x) (event ev)

  abbrev pub before : EventTree → DateTree → Option Prop
  before ev to = option_map (λ p. Prop.Before p.0 p.1) (pair (event ev) (date to))

  abbrev pub after : EventTree → DateTree → Option Prop
  after ev from = option_map (λ p. Prop.After p.0 p.1) (pair (event ev) (date from))

  abbrev pub within : EventTree → DateTree → DateTree → Option Prop
  within ev from to = option_map (λ p. Prop.Within p.0 p.1.0 p.1.1) (pair (event ev) (pair (date from) (date to)))

  abbrev pub occurs : SituationTree → DateTree → DateTree → Option Prop
  occurs sit from to = option_map (λ p. Prop.Occurs p.0 p.1.0 p.1.1) (pair (situation sit) (pair (date from) (date to)))

  abbrev pub holding : SituationTree → Option Prop
  holding sit = option_map (λ x. Prop.Holds x) (situation sit)

  -- one proposition, with what each part of it becomes in its place
  abbrev pub lowered_step : PropTree-F Prop → Prop
  lowered_step (P.Const value first) = Prop.Const value
  lowered_step (P.Not part first) = Prop.Not part
  lowered_step (P.All parts first) = Prop.All parts
  lowered_step (P.Any parts first) = Prop.Any parts
  lowered_step (P.Compare left cmp right first) = Prop.Const (comparison_holds b.things b.environment left cmp right)
  lowered_step (P.Happens ev first) = atom_or (named ev) (happening ev)
  lowered_step (P.Before ev to first) = atom_or (named ev ++ dated to) (before ev to)
  lowered_step (P.After ev from first) = atom_or (named ev ++ dated from) (after ev from)
  lowered_step (P.Within ev from to first) = atom_or (named ev ++ (dated from ++ dated to)) (within ev from to)
  lowered_step (P.Occurs sit from to first) = atom_or (dated from ++ dated to) (occurs sit from to)
  lowered_step (P.Holds sit first) = atom_or [] (holding sit)

  -- a proposition
  abbrev pub lowered : PropTree → Prop
  lowered = fold-PropTree Prop lowered_step

  -- a trigger; one that is left out is true
  abbrev pub trigger : Option PropTree → Prop
  trigger (Some tree) = lowered tree
  trigger None = Prop.Const true
