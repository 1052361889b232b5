-- A proposition of the deed names the internal events that the specification's names, in the same order.
use Rattle.std.proofs.Common.{◌≡◌, ◌++◌, List, [], ◌∷◌, map, slice_get, Option, Some, None, option_map, refl, sym, ap, ◌∙◌, subst}
use Rattle.std.specs.Prelude.{ℕ, ℤ, Bool, IfSome, ⊤}
use Rattle.std.specs.List.{flat_map}
use Rattle.sy_core.specs.declared.kind.Target.{Target}
use Rattle.sy_core.specs.declared.event.Ev.{Ev}
use Rattle.sy_core.specs.declared.event.Ev.TheVariants.{Outer, Inner}
use Rattle.sy_core.specs.declared.date_term.Base.{Base}
use Rattle.sy_core.specs.declared.date_term.Base.TheVariants.{Fixed, First}
use Rattle.sy_core.specs.declared.date_term.DateTerm.{DateTerm}
use Rattle.sy_core.specs.declared.proposition.Situation.{Situation}
use Rattle.sy_core.specs.declared.proposition.Prop.{Prop}
use Rattle.sy_core.specs.declared.proposition.Prop.TheVariants as Prop
use Rattle.sy_core.specs.declared.proposition.Prop.TheOpen as P
use Rattle.sy_core.specs.declared.proposition.Prop.TheFolds.{fold-roll-Prop}
use Rattle.sy_core.specs.Mentions.{InternalEvent, named_by_base, named_by_date, named_by_event, names_of, names_step}
use Rattle.sy_words.specs.declared.kind.Kind.{Kind}
use Rattle.sy_tree.specs.declared.date.DateTree.{DateTree}
use Rattle.sy_tree.specs.declared.date.MomentTree.{MomentTree}
use Rattle.sy_tree.specs.declared.date.MomentTree.TheVariants as Moment
use Rattle.sy_tree.specs.declared.proposition.EventTree.{EventTree}
use Rattle.sy_tree.specs.declared.proposition.EventTree.TheVariants as Event
use Rattle.sy_tree.specs.declared.proposition.SituationTree.{SituationTree}
use Rattle.sy_tree.specs.declared.proposition.PropTree.{PropTree}
use Rattle.sy_tree.specs.declared.proposition.PropTree.TheOpen.{PropTree-F}
use Rattle.sy_tree.specs.declared.proposition.PropTree.TheOpen as Tree
use Rattle.sy_tree.specs.declared.proposition.PropTree.TheFolds.{fold-roll-PropTree, map-PropTree, ind-PropTree}
use Rattle.sy_tree.specs.declared.proposition.PropTree.TheViews.{roll-PropTree}
use Rattle.sy_literal.specs.Values.{date_point}
use Rattle.sy_terms.specs.Items.{path_item}
use Rattle.sy_terms.specs.Conditions.{comparison_holds}
use Rattle.sy_typing.specs.Outlines.{date_mentions, event_if, event_mentions, mentions, mentions_step, moment_mentions, one_happens}
use Rattle.sy_typing.specs.Positions.{event_target}
use Rattle.sy_typing.proofs.Existence.{names_of_one}
use Rattle.sy_scope.specs.Scopes.{meaning_of}
use Rattle.sy_core.specs.Values.{is_dated}
use Rattle.sy_lower.specs.Basis.{Basis}
use Rattle.sy_lower.specs.Events.{event_number, event_of, guard_of, guarded, outer, situation_of}
use Rattle.sy_lower.specs.Dates.{base_of, date_of, date_term, durations_of, fixed, lengthened}
use Rattle.sy_lower.specs.Parts.{all_there, that_passes}
use Rattle.sy_lower.specs.Propositions.{after, atom_or, before, happening, holding, lowered, lowered_step, occurs, pair, within}
use Rattle.sy_lower.proofs.Optional.{of_any_map, of_any_then, of_map, of_pair, of_then}

-- ---- what the propositions of a deed name

names_happens : (ev : Ev) → names_of (Prop.Happens ev) ≡ named_by_event ev
names_happens ev = ap names_of (sym (Prop.rolls-Happens ev)) ∙ fold-roll-Prop (List InternalEvent) names_step (P.Happens ev)

names_before : (ev : Ev) (to : DateTerm) → names_of (Prop.Before ev to) ≡ (named_by_event ev ++ named_by_date to)
names_before ev to = ap names_of (sym (Prop.rolls-Before ev to)) ∙ fold-roll-Prop (List InternalEvent) names_step (P.Before ev to)

names_after : (ev : Ev) (from : DateTerm) → names_of (Prop.After ev from) ≡ (named_by_event ev ++ named_by_date from)
names_after ev from = ap names_of (sym (Prop.rolls-After ev from)) ∙ fold-roll-Prop (List InternalEvent) names_step (P.After ev from)

names_within : (ev : Ev) (from to : DateTerm)
    → names_of (Prop.Within ev from to) ≡ (named_by_event ev ++ (named_by_date from ++ named_by_date to))
names_within ev from to = ap names_of (sym (Prop.rolls-Within ev from to)) ∙ fold-roll-Prop (List InternalEvent) names_step (P.Within ev from to)

names_occurs : (s : Situation) (from to : DateTerm) → names_of (Prop.Occurs s from to) ≡ (named_by_date from ++ named_by_date to)
names_occurs s from to = ap names_of (sym (Prop.rolls-Occurs s from to)) ∙ fold-roll-Prop (List InternalEvent) names_step (P.Occurs s from to)

names_holds : (s : Situation) → names_of (Prop.Holds s) ≡ []
names_holds s = ap names_of (sym (Prop.rolls-Holds s)) ∙ fold-roll-Prop (List InternalEvent) names_step (P.Holds s)

pub names_const : (value : Bool) → names_of (Prop.Const value) ≡ []
names_const value = ap names_of (sym (Prop.rolls-Const value)) ∙ fold-roll-Prop (List InternalEvent) names_step (P.Const value)

names_not : (part : Prop) → names_of (Prop.Not part) ≡ names_of part
names_not part = ap names_of (sym (Prop.rolls-Not part)) ∙ fold-roll-Prop (List InternalEvent) names_step (P.Not part)

names_all : (parts : List Prop) → names_of (Prop.All parts) ≡ flat_map (λ part. part) (map names_of parts)
names_all parts = ap names_of (sym (Prop.rolls-All parts)) ∙ fold-roll-Prop (List InternalEvent) names_step (P.All parts)

names_any : (parts : List Prop) → names_of (Prop.Any parts) ≡ flat_map (λ part. part) (map names_of parts)
names_any parts = ap names_of (sym (Prop.rolls-Any parts)) ∙ fold-roll-Prop (List InternalEvent) names_step (P.Any parts)

-- an atom, or what stands for it
atom_named : (events : List InternalEvent) (found : Option Prop) → IfSome found (λ p. names_of p ≡ events) → names_of (atom_or events found) ≡ events
atom_named events None h = names_of_one events
atom_named events (Some p) h = h

module _ (b : Basis) where
  abbrev NamesEvent : EventTree → Ev → Type 0
  NamesEvent tree ev = named_by_event ev ≡ event_mentions b.things.domain.table b.contract tree

  abbrev NamesDate : DateTree → DateTerm → Type 0
  NamesDate tree term = named_by_date term ≡ date_mentions b.things.domain.table b.contract tree

  inner_named : (kind : Kind) (o : Option Target) → IfSome (option_map (λ t. Inner kind t) o) (λ ev. named_by_event ev ≡ event_if kind o)
  inner_named kind None = tt
  inner_named kind (Some t) = refl

  event_named : (tree : EventTree) → IfSome (event_of b tree) (NamesEvent tree)
  event_named (Event.Declared name guards) =
      of_any_then (outer b guards) (NamesEvent (Event.Declared name guards))
      (λ n. of_any_then (guarded b guards n) (NamesEvent (Event.Declared name guards))
      (λ kinds. of_any_map (λ list. Outer n list) (NamesEvent (Event.Declared name guards)) (λ list. refl) (all_there (map (guard_of b kinds) guards)))
      (slice_get b.declared.kinds n))
      (event_number b.declared (meaning_of b.things name.text))
  event_named (Event.Internal kind place target) = inner_named kind (event_target b.things.domain.table b.contract kind target)

  fixed_named : (point : Option ℤ) → IfSome (fixed b.environment.unit point) (λ base. named_by_base base ≡ [])
  fixed_named None = tt
  fixed_named (Some p) = of_any_map (λ q. Fixed q) (λ base. named_by_base base ≡ []) (λ q. refl) (that_passes (is_dated b.environment.unit) p)

  abbrev NamesBase : MomentTree → Base → Type 0
  NamesBase tree base = named_by_base base ≡ moment_mentions b.things.domain.table b.contract tree

  base_named : (tree : MomentTree) → IfSome (base_of b tree) (NamesBase tree)
  base_named (Moment.Fixed date) = fixed_named (date_point b.environment.unit date.text)
  base_named (Moment.Path path) = fixed_named (date_of (path_item b.things b.environment path))
  base_named (Moment.Time place event) =
      of_map (λ ev. First ev) (NamesEvent event) (NamesBase (Moment.Time place event)) (λ ev h. h) (event_of b event) (event_named event)

  date_named : (tree : DateTree) → IfSome (date_term b tree) (NamesDate tree)
  date_named tree =
      of_then (lengthened b tree.plus) (NamesBase tree.moment) (NamesDate tree)
      (λ base h. of_any_map (λ plus. record { base = base; plus = plus }) (NamesDate tree) (λ plus. h)
      (durations_of b.things b.environment tree.plus))
      (base_of b tree.moment) (base_named tree.moment)

  -- ---- each atom

  abbrev T : EventTree → List InternalEvent
  T = event_mentions b.things.domain.table b.contract

  abbrev D : DateTree → List InternalEvent
  D = date_mentions b.things.domain.table b.contract

  happening_named : (ev : EventTree) → IfSome (happening b ev) (λ p. names_of p ≡ T ev)
  happening_named ev =
      of_map (λ x. Prop.Happens x) (NamesEvent ev) (λ p. names_of p ≡ T ev) (λ x h. names_happens x ∙ h) (event_of b ev) (event_named ev)

  abbrev Both : EventTree → DateTree → Ev × DateTerm → Type 0
  Both ev d p = NamesEvent ev p.0 × NamesDate d p.1

  joined : (x y u v : List InternalEvent) → x ≡ u → y ≡ v → (x ++ y) ≡ (u ++ v)
  joined x y u v h k = λ j. h j ++ k j

  before_named : (ev : EventTree) (to : DateTree) → IfSome (before b ev to) (λ p. names_of p ≡ (T ev ++ D to))
  before_named ev to =
      of_map (λ (p : Ev × DateTerm). Prop.Before p.0 p.1) (Both ev to) (λ p. names_of p ≡ (T ev ++ D to))
      (λ p h. names_before p.0 p.1 ∙ joined (named_by_event p.0) (named_by_date p.1) (T ev) (D to) h.0 h.1)
      (pair (event_of b ev) (date_term b to))
      (of_pair (NamesEvent ev) (NamesDate to) (event_of b ev) (date_term b to) (event_named ev) (date_named to))

  after_named : (ev : EventTree) (from : DateTree) → IfSome (after b ev from) (λ p. names_of p ≡ (T ev ++ D from))
  after_named ev from =
      of_map (λ (p : Ev × DateTerm). Prop.After p.0 p.1) (Both ev from) (λ p. names_of p ≡ (T ev ++ D from))
      (λ p h. names_after p.0 p.1 ∙ joined (named_by_event p.0) (named_by_date p.1) (T ev) (D from) h.0 h.1)
      (pair (event_of b ev) (date_term b from))
      (of_pair (NamesEvent ev) (NamesDate from) (event_of b ev) (date_term b from) (event_named ev) (date_named from))

  abbrev Dates : DateTree → DateTree → DateTerm × DateTerm → Type 0
  Dates from to p = NamesDate from p.0 × NamesDate to p.1

  dates_named : (from to : DateTree) → IfSome (pair (date_term b from) (date_term b to)) (Dates from to)
  dates_named from to = of_pair (NamesDate from) (NamesDate to) (date_term b from) (date_term b to) (date_named from) (date_named to)

  within_named : (ev : EventTree) (from to : DateTree) → IfSome (within b ev from to) (λ p. names_of p ≡ (T ev ++ (D from ++ D to)))
  within_named ev from to =
      of_map (λ (p : Ev × (DateTerm × DateTerm)). Prop.Within p.0 p.1.0 p.1.1) (λ p. NamesEvent ev p.0 × Dates from to p.1)
      (λ p. names_of p ≡ (T ev ++ (D from ++ D to)))
      (λ p h. names_within p.0 p.1.0 p.1.1
      ∙ joined (named_by_event p.0) (named_by_date p.1.0 ++ named_by_date p.1.1) (T ev) (D from ++ D to) h.0
      (joined (named_by_date p.1.0) (named_by_date p.1.1) (D from) (D to) h.1.0 h.1.1))
      (pair (event_of b ev) (pair (date_term b from) (date_term b to)))
      (of_pair (NamesEvent ev) (Dates from to) (event_of b ev) (pair (date_term b from) (date_term b to)) (event_named ev) (dates_named from to))

  occurs_named : (sit : SituationTree) (from to : DateTree) → IfSome (occurs b sit from to) (λ p. names_of p ≡ (D from ++ D to))
  occurs_named sit from to =
      of_map (λ (p : Situation × (DateTerm × DateTerm)). Prop.Occurs p.0 p.1.0 p.1.1) (λ p. ⊤ × Dates from to p.1)
      (λ p. names_of p ≡ (D from ++ D to))
      (λ p h. names_occurs p.0 p.1.0 p.1.1 ∙ joined (named_by_date p.1.0) (named_by_date p.1.1) (D from) (D to) h.1.0 h.1.1)
      (pair (situation_of b sit) (pair (date_term b from) (date_term b to)))
      (of_pair (λ s. ⊤) (Dates from to) (situation_of b sit) (pair (date_term b from) (date_term b to)) (any (situation_of b sit)) (dates_named from to))
    where
      any : (o : Option Situation) → IfSome o (λ s. ⊤)
      any None = tt
      any (Some s) = tt

  holding_named : (sit : SituationTree) → IfSome (holding b sit) (λ p. names_of p ≡ [])
  holding_named sit = of_any_map (λ s. Prop.Holds s) (λ p. names_of p ≡ []) (λ s. names_holds s) (situation_of b sit)

  -- ---- each proposition

  abbrev IsNamed : PropTree → Type 0
  IsNamed tree = names_of (lowered b tree) ≡ mentions b.things.domain.table b.contract tree

  parts_named : (parts : List ((tree : PropTree) × IsNamed tree))
      → flat_map (λ part. part) (map names_of (map (lowered b) (map (λ e. e.0) parts)))
      ≡ flat_map (λ part. part) (map (mentions b.things.domain.table b.contract) (map (λ e. e.0) parts))
  parts_named [] = refl
  parts_named (e ∷ parts) = let rest = parts_named parts in λ j. e.1 j ++ rest j

  layer_named : (y : PropTree-F ((tree : PropTree) × IsNamed tree))
      → names_of (lowered_step b (map-PropTree PropTree Prop (lowered b) (map-PropTree ((tree : PropTree) × IsNamed tree) PropTree (λ e. e.0) y)))
      ≡ mentions_step b.things.domain.table b.contract (map-PropTree PropTree (List InternalEvent) (mentions b.things.domain.table b.contract) (map-PropTree ((tree : PropTree) × IsNamed tree) PropTree (λ e. e.0) y))
  layer_named (Tree.Const value first) = names_const value
  layer_named (Tree.Not e first) = names_not (lowered b e.0) ∙ e.1
  layer_named (Tree.All parts first) = names_all (map (lowered b) (map (λ (e : (tree : PropTree) × IsNamed tree). e.0) parts)) ∙ parts_named parts
  layer_named (Tree.Any parts first) = names_any (map (lowered b) (map (λ (e : (tree : PropTree) × IsNamed tree). e.0) parts)) ∙ parts_named parts
  layer_named (Tree.Compare left cmp right first) = names_const (comparison_holds b.things b.environment left cmp right)
  layer_named (Tree.Happens ev first) = atom_named (T ev) (happening b ev) (happening_named ev)
  layer_named (Tree.Before ev to first) = atom_named (T ev ++ D to) (before b ev to) (before_named ev to)
  layer_named (Tree.After ev from first) = atom_named (T ev ++ D from) (after b ev from) (after_named ev from)
  layer_named (Tree.Within ev from to first) = atom_named (T ev ++ (D from ++ D to)) (within b ev from to) (within_named ev from to)
  layer_named (Tree.Occurs sit from to first) = atom_named (D from ++ D to) (occurs b sit from to) (occurs_named sit from to)
  layer_named (Tree.Holds sit first) = atom_named [] (holding b sit) (holding_named sit)

  pub lowered_named : (tree : PropTree) → IsNamed tree
  lowered_named = ind-PropTree IsNamed (λ x y is.
      let parts = λ (z : PropTree-F ((tree : PropTree) × IsNamed tree)). map-PropTree ((tree : PropTree) × IsNamed tree) PropTree (λ e. e.0) z in
      subst (λ (z : PropTree-F PropTree). IsNamed (roll-PropTree z)) is
      (ap names_of (fold-roll-PropTree Prop (lowered_step b) (parts y)) ∙ layer_named y
      ∙ sym (fold-roll-PropTree (List InternalEvent) (mentions_step b.things.domain.table b.contract) (parts y))))
