-- The outline of a specification: its positions with nothing of their propositions but the internal events that they name, and the acts of its
-- powers. The order of evaluation goes by it, since the same events are named whatever the parameters are bound to. An event whose target has no
-- such events is refused by an earlier check, and is left out here.
use Rattle.std.specs.Prelude.{ℕ, List, [], ◌∷◌, ◌++◌, map, Option, Some, None, pos}
use Rattle.std.specs.List.{flat_map}
use Rattle.sy_words.specs.declared.form.Form.{Form}
use Rattle.sy_words.specs.declared.form.Form.TheVariants as Form
use Rattle.sy_words.specs.declared.kind.Kind.{Kind}
use Rattle.sy_words.specs.declared.verb.Verb.{Verb}
use Rattle.sy_words.specs.declared.verb.Verb.TheVariants as Verb
use Rattle.sy_lex.specs.declared.written.Written.{Written}
use Rattle.sy_core.specs.declared.kind.Target.{Target}
use Rattle.sy_core.specs.declared.kind.Target.TheVariants as T
use Rattle.sy_core.specs.declared.event.Ev.TheVariants.{Inner}
use Rattle.sy_core.specs.declared.proposition.Prop.{Prop}
use Rattle.sy_core.specs.declared.proposition.Prop.TheVariants as Prop
use Rattle.sy_core.specs.declared.position.Goal.{Goal}
use Rattle.sy_core.specs.declared.position.Goal.TheVariants as G
use Rattle.sy_core.specs.declared.position.Position.{Position}
use Rattle.sy_core.specs.declared.deed.Deed.{Deed}
use Rattle.sy_core.specs.Mentions.{InternalEvent}
use Rattle.sy_tree.specs.declared.target.TargetTree.{TargetTree}
use Rattle.sy_tree.specs.declared.date.DateTree.{DateTree}
use Rattle.sy_tree.specs.declared.date.MomentTree.{MomentTree}
use Rattle.sy_tree.specs.declared.date.MomentTree.TheVariants as Moment
use Rattle.sy_tree.specs.declared.proposition.EventTree.{EventTree}
use Rattle.sy_tree.specs.declared.proposition.EventTree.TheVariants as Event
use Rattle.sy_tree.specs.declared.proposition.PropTree.{PropTree}
use Rattle.sy_tree.specs.declared.proposition.PropTree.TheOpen.{PropTree-F}
use Rattle.sy_tree.specs.declared.proposition.PropTree.TheOpen as P
use Rattle.sy_tree.specs.declared.proposition.PropTree.TheFolds.{fold-PropTree}
use Rattle.sy_spec.specs.declared.position.ObligTree.{ObligTree}
use Rattle.sy_spec.specs.declared.position.PowerTree.{PowerTree}
use Rattle.sy_spec.specs.declared.position.ActTree.{ActTree}
use Rattle.sy_spec.specs.declared.contract.ContractTree.{ContractTree}
use Rattle.sy_spec.specs.declared.contract.SpecTree.{SpecTree}
use Rattle.sy_domain.specs.Names.{Table, all_names}
use Rattle.sy_typing.specs.Positions.{act_target, event_target}

-- the event of a kind, where its target is there
abbrev pub event_if : Kind → Option Target → List InternalEvent
event_if kind None = []
event_if kind (Some target) = (kind, target) ∷ []

-- an act on the target that is there
abbrev pub act_or_none : Verb → Option Target → Goal
act_or_none verb (Some target) = G.Act (record { verb = verb; target = target })
act_or_none verb None = G.Act (record { verb = Verb.Suspends; target = T.Contract })

-- an event happens, and one of some events does
abbrev pub happens : InternalEvent → Prop
happens event = Prop.Happens (Inner event.0 event.1)

abbrev pub one_happens : List InternalEvent → Prop
one_happens events = Prop.Any (map happens events)

module _ (table : Table) (contract : ContractTree) where
  -- the internal event that is named, if it is one
  abbrev pub event_mentions : EventTree → List InternalEvent
  event_mentions (Event.Declared name guards) = []
  event_mentions (Event.Internal kind place target) = event_if kind (event_target table contract kind target)

  abbrev pub moment_mentions : MomentTree → List InternalEvent
  moment_mentions (Moment.Fixed date) = []
  moment_mentions (Moment.Path path) = []
  moment_mentions (Moment.Time place event) = event_mentions event

  -- the internal event with whose first time a date term begins, if it does
  abbrev pub date_mentions : DateTree → List InternalEvent
  date_mentions date = moment_mentions date.moment

  -- the internal events of one proposition, with those of each part in its place
  abbrev pub mentions_step : PropTree-F (List InternalEvent) → List InternalEvent
  mentions_step (P.Const value first) = []
  mentions_step (P.Not part first) = part
  mentions_step (P.All parts first) = flat_map (λ part. part) parts
  mentions_step (P.Any parts first) = flat_map (λ part. part) parts
  mentions_step (P.Compare left cmp right first) = []
  mentions_step (P.Happens event first) = event_mentions event
  mentions_step (P.Before event date first) = event_mentions event ++ date_mentions date
  mentions_step (P.After event date first) = event_mentions event ++ date_mentions date
  mentions_step (P.Within event from to first) = event_mentions event ++ (date_mentions from ++ date_mentions to)
  mentions_step (P.Occurs situation from to first) = date_mentions from ++ date_mentions to
  mentions_step (P.Holds situation first) = []

  -- the internal events that a proposition names, anywhere in it: under not and inside time too
  abbrev pub mentions : PropTree → List InternalEvent
  mentions = fold-PropTree (List InternalEvent) mentions_step

  abbrev pub trigger_mentions : Option PropTree → List InternalEvent
  trigger_mentions None = []
  trigger_mentions (Some trigger) = mentions trigger

  abbrev pub obligation_outline : Form → ObligTree → Position
  obligation_outline form o =
      record {
        name = o.name.text;
        form = form;
        first = o.debtor.text;
        second = o.creditor.text;
        trigger = one_happens (trigger_mentions o.trigger);
        antecedent = one_happens (mentions o.antecedent);
        goal = G.Duty (one_happens (mentions o.consequent));
      }

  abbrev pub act_outline : ActTree → Goal
  act_outline act = act_or_none act.verb.verb (act_target table contract act.verb.verb act.target)

  abbrev pub power_outline : PowerTree → Position
  power_outline p =
      record {
        name = p.name.text;
        form = Form.Power;
        first = p.holder.text;
        second = p.other_party.text;
        trigger = one_happens (trigger_mentions p.trigger);
        antecedent = one_happens (mentions p.antecedent);
        goal = act_outline p.act;
      }

  -- obligations, then surviving obligations, then powers
  abbrev pub position_outlines : List Position
  position_outlines =
      map (obligation_outline Form.Obligation) contract.obligations
      ++ map (obligation_outline Form.Surviving) contract.surviving
      ++ map power_outline contract.powers

-- the outline of a specification: a deed of its positions alone
unfoldable pub outline : SpecTree → Deed
outline spec =
    record {
      unit = spec.contract.unit.unit;
      start = pos 0;
      events = [];
      choices = [];
      positions = position_outlines (all_names spec).table spec.contract;
      posts = [];
      order = [];
    }
