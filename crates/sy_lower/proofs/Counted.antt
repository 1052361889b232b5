-- A proposition of the deed has no more atoms than the specification's.
use Rattle.std.proofs.Common.{◌≡◌, ℕ, zero, suc, ◌+◌, ◌≤◌, List, [], ◌∷◌, ◌++◌, length, map, Option, Some, None, option_map, refl, sym, ap, ◌∙◌, subst, arith, length-append}
use Rattle.std.specs.Prelude.{ℤ, Bool, IfSome, ⊤}
use Rattle.std.specs.List.{sum}
use Rattle.std.proofs.lemmas.List.Sums.{sum_by-cons}
use Rattle.sy_core.specs.declared.kind.Target.{Target}
use Rattle.sy_core.specs.declared.event.Ev.{Ev}
use Rattle.sy_core.specs.declared.event.Ev.TheVariants.{Inner}
use Rattle.sy_core.specs.declared.date_term.Base.{Base}
use Rattle.sy_core.specs.declared.date_term.Base.TheVariants.{Fixed, First}
use Rattle.sy_core.specs.declared.date_term.DateTerm.{DateTerm}
use Rattle.sy_core.specs.declared.proposition.Situation.{Situation}
use Rattle.sy_core.specs.declared.proposition.Prop.{Prop}
use Rattle.sy_core.specs.declared.proposition.Prop.TheVariants as Prop
use Rattle.sy_core.specs.declared.proposition.Prop.TheOpen as P
use Rattle.sy_core.specs.declared.proposition.Prop.TheFolds.{fold-roll-Prop}
use Rattle.sy_core.specs.Limits.{atoms_of, atoms_of_base, atoms_of_date, atoms_step as step}
use Rattle.sy_core.specs.Mentions.{InternalEvent}
use Rattle.sy_words.specs.declared.kind.Kind.{Kind}
use Rattle.sy_tree.specs.declared.date.DateTree.{DateTree}
use Rattle.sy_tree.specs.declared.date.MomentTree.{MomentTree}
use Rattle.sy_tree.specs.declared.date.MomentTree.TheVariants as Moment
use Rattle.sy_tree.specs.declared.proposition.EventTree.{EventTree}
use Rattle.sy_tree.specs.declared.proposition.EventTree.TheVariants as Event
use Rattle.sy_tree.specs.declared.proposition.SituationTree.{SituationTree}
use Rattle.sy_tree.specs.declared.proposition.PropTree.{PropTree}
use Rattle.sy_tree.specs.declared.proposition.PropTree.TheOpen.{PropTree-F}
use Rattle.sy_tree.specs.declared.proposition.PropTree.TheOpen as Tree
use Rattle.sy_tree.specs.declared.proposition.PropTree.TheFolds.{fold-roll-PropTree, map-PropTree, ind-PropTree}
use Rattle.sy_tree.specs.declared.proposition.PropTree.TheViews.{roll-PropTree}
use Rattle.sy_literal.specs.Limits.{atoms, atoms_step, date_atoms, moment_atoms}
use Rattle.sy_literal.specs.Values.{date_point}
use Rattle.sy_terms.specs.Items.{path_item}
use Rattle.sy_terms.specs.Conditions.{comparison_holds}
use Rattle.sy_typing.specs.Outlines.{date_mentions, event_if, event_mentions, happens, moment_mentions}
use Rattle.sy_typing.specs.Positions.{event_target}
use Rattle.sy_core.specs.Values.{is_dated}
use Rattle.sy_lower.specs.Basis.{Basis}
use Rattle.sy_lower.specs.Events.{event_of, situation_of}
use Rattle.sy_lower.specs.Dates.{base_of, date_of, date_term, durations_of, fixed, lengthened}
use Rattle.sy_lower.specs.Parts.{that_passes}
use Rattle.sy_lower.specs.Propositions.{after, atom_or, before, happening, holding, lowered, lowered_step, occurs, pair, within}
use Rattle.sy_lower.proofs.Optional.{of_any_map, of_map, of_pair, of_then}

-- ---- the atoms of the propositions of a deed

pub of_const : (value : Bool) → atoms_of (Prop.Const value) ≡ 0
of_const value = ap atoms_of (sym (Prop.rolls-Const value)) ∙ fold-roll-Prop ℕ step (P.Const value)

of_not : (part : Prop) → atoms_of (Prop.Not part) ≡ atoms_of part
of_not part = ap atoms_of (sym (Prop.rolls-Not part)) ∙ fold-roll-Prop ℕ step (P.Not part)

of_all : (parts : List Prop) → atoms_of (Prop.All parts) ≡ sum (map atoms_of parts)
of_all parts = ap atoms_of (sym (Prop.rolls-All parts)) ∙ fold-roll-Prop ℕ step (P.All parts)

of_any : (parts : List Prop) → atoms_of (Prop.Any parts) ≡ sum (map atoms_of parts)
of_any parts = ap atoms_of (sym (Prop.rolls-Any parts)) ∙ fold-roll-Prop ℕ step (P.Any parts)

of_happens : (ev : Ev) → atoms_of (Prop.Happens ev) ≡ 1
of_happens ev = ap atoms_of (sym (Prop.rolls-Happens ev)) ∙ fold-roll-Prop ℕ step (P.Happens ev)

of_before : (ev : Ev) (to : DateTerm) → atoms_of (Prop.Before ev to) ≡ 1 + atoms_of_date to
of_before ev to = ap atoms_of (sym (Prop.rolls-Before ev to)) ∙ fold-roll-Prop ℕ step (P.Before ev to)

of_after : (ev : Ev) (from : DateTerm) → atoms_of (Prop.After ev from) ≡ 1 + atoms_of_date from
of_after ev from = ap atoms_of (sym (Prop.rolls-After ev from)) ∙ fold-roll-Prop ℕ step (P.After ev from)

of_within : (ev : Ev) (from to : DateTerm) → atoms_of (Prop.Within ev from to) ≡ 1 + atoms_of_date from + atoms_of_date to
of_within ev from to = ap atoms_of (sym (Prop.rolls-Within ev from to)) ∙ fold-roll-Prop ℕ step (P.Within ev from to)

of_occurs : (s : Situation) (from to : DateTerm) → atoms_of (Prop.Occurs s from to) ≡ 1 + atoms_of_date from + atoms_of_date to
of_occurs s from to = ap atoms_of (sym (Prop.rolls-Occurs s from to)) ∙ fold-roll-Prop ℕ step (P.Occurs s from to)

of_holds : (s : Situation) → atoms_of (Prop.Holds s) ≡ 1
of_holds s = ap atoms_of (sym (Prop.rolls-Holds s)) ∙ fold-roll-Prop ℕ step (P.Holds s)

-- one atom for each event
each_happens : (events : List InternalEvent) → sum (map atoms_of (map happens events)) ≡ length events
each_happens [] = refl
each_happens (event ∷ events) = omega (
  arith,
  of_happens (Inner event.0 event.1),
  sum_by-cons (λ (n : ℕ). n) (atoms_of (happens event)) (map atoms_of (map happens events)),
  each_happens events,
)

module _ (b : Basis) where
  abbrev N : EventTree → List InternalEvent
  N = event_mentions b.things.domain.table b.contract

  abbrev D : DateTree → List InternalEvent
  D = date_mentions b.things.domain.table b.contract

  -- ---- what stands for an atom that breaks a rule

  one_event : (tree : EventTree) → length (N tree) ≤ 1
  one_event (Event.Declared name guards) = omega arith
  one_event (Event.Internal kind place target) = at (event_target b.things.domain.table b.contract kind target)
    where
      at : (o : Option Target) → length (event_if kind o) ≤ 1
      at None = omega arith
      at (Some t) = omega arith

  one_date : (tree : DateTree) → length (D tree) ≤ date_atoms tree
  one_date tree = at tree.moment
    where
      at : (m : MomentTree) → length (moment_mentions b.things.domain.table b.contract m) ≤ moment_atoms m
      at (Moment.Fixed date) = omega arith
      at (Moment.Path path) = omega arith
      at (Moment.Time place event) = one_event event

  atom_counted : (events : List InternalEvent) (found : Option Prop) (most : ℕ) → length events ≤ most
      → IfSome found (λ p. atoms_of p ≤ most) → atoms_of (atom_or events found) ≤ most
  atom_counted events None most few h = omega (arith, few, of_any (map happens events), each_happens events)
  atom_counted events (Some p) most few h = h

  -- ---- date terms

  abbrev Counts : DateTree → DateTerm → Type 0
  Counts tree term = atoms_of_date term ≤ date_atoms tree

  fixed_counted : (m : ℕ) (point : Option ℤ) → IfSome (fixed b.environment.unit point) (λ base. atoms_of_base base ≤ m)
  fixed_counted m None = tt
  fixed_counted m (Some p) = of_any_map (λ q. Fixed q) (λ base. atoms_of_base base ≤ m) (λ q. omega arith) (that_passes (is_dated b.environment.unit) p)

  base_counted : (tree : MomentTree) → IfSome (base_of b tree) (λ base. atoms_of_base base ≤ moment_atoms tree)
  base_counted (Moment.Fixed date) = fixed_counted 0 (date_point b.environment.unit date.text)
  base_counted (Moment.Path path) = fixed_counted 0 (date_of (path_item b.things b.environment path))
  base_counted (Moment.Time place event) = of_any_map (λ ev. First ev) (λ base. atoms_of_base base ≤ 1) (λ ev. omega arith) (event_of b event)

  date_counted : (tree : DateTree) → IfSome (date_term b tree) (Counts tree)
  date_counted tree =
      of_then (lengthened b tree.plus) (λ base. atoms_of_base base ≤ moment_atoms tree.moment) (Counts tree)
      (λ base h. of_any_map (λ plus. record { base = base; plus = plus }) (Counts tree) (λ plus. h) (durations_of b.things b.environment tree.plus))
      (base_of b tree.moment) (base_counted tree.moment)

  -- ---- each atom

  anything : {A : Type 0} (o : Option A) → IfSome o (λ x. ⊤)
  anything None = tt
  anything (Some x) = tt

  before_counted : (ev : EventTree) (to : DateTree) → IfSome (before b ev to) (λ p. atoms_of p ≤ 1 + date_atoms to)
  before_counted ev to =
      of_map (λ (p : Ev × DateTerm). Prop.Before p.0 p.1) (λ p. ⊤ × Counts to p.1) (λ p. atoms_of p ≤ 1 + date_atoms to)
      (λ p h. omega (arith, of_before p.0 p.1, h.1)) (pair (event_of b ev) (date_term b to))
      (of_pair (λ x. ⊤) (Counts to) (event_of b ev) (date_term b to) (anything (event_of b ev)) (date_counted to))

  after_counted : (ev : EventTree) (from : DateTree) → IfSome (after b ev from) (λ p. atoms_of p ≤ 1 + date_atoms from)
  after_counted ev from =
      of_map (λ (p : Ev × DateTerm). Prop.After p.0 p.1) (λ p. ⊤ × Counts from p.1) (λ p. atoms_of p ≤ 1 + date_atoms from)
      (λ p h. omega (arith, of_after p.0 p.1, h.1)) (pair (event_of b ev) (date_term b from))
      (of_pair (λ x. ⊤) (Counts from) (event_of b ev) (date_term b from) (anything (event_of b ev)) (date_counted from))

  abbrev Dates : DateTree → DateTree → DateTerm × DateTerm → Type 0
  Dates from to p = Counts from p.0 × Counts to p.1

  dates_counted : (from to : DateTree) → IfSome (pair (date_term b from) (date_term b to)) (Dates from to)
  dates_counted from to = of_pair (Counts from) (Counts to) (date_term b from) (date_term b to) (date_counted from) (date_counted to)

  within_counted : (ev : EventTree) (from to : DateTree) → IfSome (within b ev from to) (λ p. atoms_of p ≤ 1 + date_atoms from + date_atoms to)
  within_counted ev from to =
      of_map (λ (p : Ev × (DateTerm × DateTerm)). Prop.Within p.0 p.1.0 p.1.1) (λ p. ⊤ × Dates from to p.1)
      (λ p. atoms_of p ≤ 1 + date_atoms from + date_atoms to) (λ p h. omega (arith, of_within p.0 p.1.0 p.1.1, h.1.0, h.1.1))
      (pair (event_of b ev) (pair (date_term b from) (date_term b to)))
      (of_pair (λ x. ⊤) (Dates from to) (event_of b ev) (pair (date_term b from) (date_term b to)) (anything (event_of b ev)) (dates_counted from to))

  occurs_counted : (sit : SituationTree) (from to : DateTree) → IfSome (occurs b sit from to) (λ p. atoms_of p ≤ 1 + date_atoms from + date_atoms to)
  occurs_counted sit from to =
      of_map (λ (p : Situation × (DateTerm × DateTerm)). Prop.Occurs p.0 p.1.0 p.1.1) (λ p. ⊤ × Dates from to p.1)
      (λ p. atoms_of p ≤ 1 + date_atoms from + date_atoms to) (λ p h. omega (arith, of_occurs p.0 p.1.0 p.1.1, h.1.0, h.1.1))
      (pair (situation_of b sit) (pair (date_term b from) (date_term b to)))
      (of_pair (λ x. ⊤) (Dates from to) (situation_of b sit) (pair (date_term b from) (date_term b to)) (anything (situation_of b sit)) (dates_counted from to))

  -- ---- each proposition

  abbrev IsCounted : PropTree → Type 0
  IsCounted tree = atoms_of (lowered b tree) ≤ atoms tree

  parts_counted : (parts : List ((tree : PropTree) × IsCounted tree))
      → sum (map atoms_of (map (lowered b) (map (λ e. e.0) parts))) ≤ sum (map atoms (map (λ e. e.0) parts))
  parts_counted [] = omega arith
  parts_counted (e ∷ parts) =
      let rest = map (λ (q : (tree : PropTree) × IsCounted tree). q.0) parts in
      omega (
        arith,
        e.1,
        sum_by-cons (λ (n : ℕ). n) (atoms_of (lowered b e.0)) (map atoms_of (map (lowered b) rest)),
        sum_by-cons (λ (n : ℕ). n) (atoms e.0) (map atoms rest),
        parts_counted parts,
      )

  layer_counted : (y : PropTree-F ((tree : PropTree) × IsCounted tree))
      → atoms_of (lowered_step b (map-PropTree PropTree Prop (lowered b) (map-PropTree ((tree : PropTree) × IsCounted tree) PropTree (λ e. e.0) y)))
      ≤ atoms_step (map-PropTree PropTree ℕ atoms (map-PropTree ((tree : PropTree) × IsCounted tree) PropTree (λ e. e.0) y))
  layer_counted (Tree.Const value first) = omega (arith, of_const value)
  layer_counted (Tree.Not e first) = omega (arith, of_not (lowered b e.0), e.1)
  layer_counted (Tree.All parts first) =
      omega (arith, of_all (map (lowered b) (map (λ (e : (tree : PropTree) × IsCounted tree). e.0) parts)), parts_counted parts)
  layer_counted (Tree.Any parts first) =
      omega (arith, of_any (map (lowered b) (map (λ (e : (tree : PropTree) × IsCounted tree). e.0) parts)), parts_counted parts)
  layer_counted (Tree.Compare left cmp right first) = omega (arith, of_const (comparison_holds b.things b.environment left cmp right))
  layer_counted (Tree.Happens ev first) =
      atom_counted (N ev) (happening b ev) 1 (one_event ev)
      (of_any_map (λ x. Prop.Happens x) (λ p. atoms_of p ≤ 1) (λ x. omega (arith, of_happens x)) (event_of b ev))
  layer_counted (Tree.Before ev to first) =
      atom_counted (N ev ++ D to) (before b ev to) (1 + date_atoms to)
      (omega (arith, length-append (N ev) (D to), one_event ev, one_date to)) (before_counted ev to)
  layer_counted (Tree.After ev from first) =
      atom_counted (N ev ++ D from) (after b ev from) (1 + date_atoms from)
      (omega (arith, length-append (N ev) (D from), one_event ev, one_date from)) (after_counted ev from)
  layer_counted (Tree.Within ev from to first) =
      atom_counted (N ev ++ (D from ++ D to)) (within b ev from to) (1 + date_atoms from + date_atoms to)
      (omega (arith, length-append (N ev) (D from ++ D to), length-append (D from) (D to), one_event ev, one_date from, one_date to))
      (within_counted ev from to)
  layer_counted (Tree.Occurs sit from to first) =
      atom_counted (D from ++ D to) (occurs b sit from to) (1 + date_atoms from + date_atoms to)
      (omega (arith, length-append (D from) (D to), one_date from, one_date to)) (occurs_counted sit from to)
  layer_counted (Tree.Holds sit first) =
      atom_counted [] (holding b sit) 1 (omega arith)
      (of_any_map (λ s. Prop.Holds s) (λ p. atoms_of p ≤ 1) (λ s. omega (arith, of_holds s)) (situation_of b sit))

  pub lowered_counted : (tree : PropTree) → IsCounted tree
  lowered_counted = ind-PropTree IsCounted (λ x y is.
      let parts = λ (z : PropTree-F ((tree : PropTree) × IsCounted tree)). map-PropTree ((tree : PropTree) × IsCounted tree) PropTree (λ e. e.0) z in
      subst (λ (z : PropTree-F PropTree). IsCounted (roll-PropTree z)) is
      (omega (arith, ap atoms_of (fold-roll-PropTree Prop (lowered_step b) (parts y)), fold-roll-PropTree ℕ atoms_step (parts y), layer_counted y)))
