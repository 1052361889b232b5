-- What stands in a deed is sound: each event, date, situation and act names what is there, and each value is of its kind.
use Rattle.std.proofs.Common.{◌≡◌, ◌==◌, ℕ, zero, suc, ◌+◌, ◌<◌, ◌&&◌, Bool, true, false, if◌then◌else◌, nat_lt, List, [], ◌∷◌, ◌++◌, length, map, slice_get, Option, Some, None, option_map, option_and_then, refl, sym, ap, ◌∙◌, subst}
use Rattle.std.specs.Prelude.{ℤ, IfSome, ⊤, nat_le, position}
use Rattle.std.specs.Map.{keys_of}
use Rattle.std.proofs.lemmas.Option.{none-some, same_Some, slice_get-map}
use Rattle.std.specs.List.{list_all}
use Rattle.std.proofs.lemmas.List.Folds.{list_all-append}
use Rattle.std.proofs.lemmas.Bool.{ltb-true}
use Rattle.sy_base.specs.declared.time.Duration.{Duration}
use Rattle.sy_words.specs.declared.form.Form.{Form}
use Rattle.sy_words.specs.declared.form.Form.TheVariants as Form
use Rattle.sy_words.specs.declared.kind.Kind.{Kind}
use Rattle.sy_words.specs.declared.verb.Verb.{Verb}
use Rattle.sy_core.specs.declared.kind.Target.{Target}
use Rattle.sy_core.specs.declared.kind.Target.TheVariants as T
use Rattle.sy_core.specs.declared.state.StateOf.{StateOf}
use Rattle.sy_core.specs.declared.value.Value.{Value}
use Rattle.sy_core.specs.declared.value.Value.TheVariants as V
use Rattle.sy_core.specs.declared.value.ValueKind.{ValueKind}
use Rattle.sy_core.specs.declared.value.ValueKind.TheVariants as K
use Rattle.sy_core.specs.declared.event.Guard.{Guard}
use Rattle.sy_core.specs.declared.event.Ev.{Ev}
use Rattle.sy_core.specs.declared.event.Ev.TheVariants.{Outer, Inner}
use Rattle.sy_core.specs.declared.date_term.Base.{Base}
use Rattle.sy_core.specs.declared.date_term.Base.TheVariants.{Fixed, First}
use Rattle.sy_core.specs.declared.date_term.DateTerm.{DateTerm}
use Rattle.sy_core.specs.declared.proposition.Situation.{Situation}
use Rattle.sy_core.specs.declared.proposition.Prop.{Prop}
use Rattle.sy_core.specs.declared.proposition.Prop.TheVariants as Prop
use Rattle.sy_core.specs.declared.proposition.Prop.TheOpen as P
use Rattle.sy_core.specs.declared.proposition.Prop.TheFolds.{fold-roll-Prop}
use Rattle.sy_core.specs.declared.position.Position.{Position}
use Rattle.sy_core.specs.declared.position.Goal.{Goal}
use Rattle.sy_core.specs.declared.deed.AttrDecl.{AttrDecl}
use Rattle.sy_core.specs.declared.deed.EventDecl.{EventDecl}
use Rattle.sy_core.specs.declared.deed.Deed.{Deed}
use Rattle.sy_core.specs.Mentions.{InternalEvent}
use Rattle.sy_core.specs.Conditions.{is_obligation}
use Rattle.sy_core.specs.Soundness as sound
use Rattle.sy_core.specs.StateWords.{state_named}
use Rattle.sy_core.specs.Values.{is_constant_of, is_dated, is_value_of}
use Rattle.sy_core.proofs.Listing.{and_left, and_right}
use Rattle.sy_tree.specs.declared.target.TargetTree.{TargetTree}
use Rattle.sy_tree.specs.declared.target.TargetTree.TheVariants as Trees
use Rattle.sy_tree.specs.declared.date.DateTree.{DateTree}
use Rattle.sy_tree.specs.declared.date.DurationTree.{DurationTree}
use Rattle.sy_tree.specs.declared.date.MomentTree.{MomentTree}
use Rattle.sy_tree.specs.declared.date.MomentTree.TheVariants as Moment
use Rattle.sy_tree.specs.declared.term.RhsTree.{RhsTree}
use Rattle.sy_tree.specs.declared.proposition.GuardTree.{GuardTree}
use Rattle.sy_tree.specs.declared.proposition.EventTree.{EventTree}
use Rattle.sy_tree.specs.declared.proposition.EventTree.TheVariants as Event
use Rattle.sy_tree.specs.declared.proposition.SituationTree.{SituationTree}
use Rattle.sy_tree.specs.declared.proposition.PropTree.{PropTree}
use Rattle.sy_tree.specs.declared.proposition.PropTree.TheOpen.{PropTree-F}
use Rattle.sy_tree.specs.declared.proposition.PropTree.TheOpen as Tree
use Rattle.sy_tree.specs.declared.proposition.PropTree.TheFolds.{fold-roll-PropTree, map-PropTree, ind-PropTree}
use Rattle.sy_tree.specs.declared.proposition.PropTree.TheViews.{roll-PropTree}
use Rattle.sy_spec.specs.declared.position.ActTree.{ActTree}
use Rattle.sy_spec.specs.declared.position.ObligTree.{ObligTree}
use Rattle.sy_spec.specs.declared.position.PowerTree.{PowerTree}
use Rattle.sy_domain.specs.declared.meaning.Meaning.{Meaning}
use Rattle.sy_domain.specs.declared.meaning.Meaning.TheVariants as M
use Rattle.sy_domain.specs.Names.{meaning_in, same}
use Rattle.sy_scope.specs.Scopes.{meaning_of}
use Rattle.sy_literal.specs.Values.{date_point}
use Rattle.sy_given.specs.declared.known.Known.TheVariants as Known
use Rattle.sy_terms.specs.declared.item.Item.{Item}
use Rattle.sy_terms.specs.declared.item.Item.TheVariants as I
use Rattle.sy_terms.specs.Items.{path_item}
use Rattle.sy_terms.specs.Terms.{rhs_item}
use Rattle.sy_terms.specs.Counts.{count_of as count_in}
use Rattle.sy_terms.specs.Conditions.{comparison_holds}
use Rattle.sy_typing.specs.Outlines.{act_or_none, act_outline, date_mentions, event_if, event_mentions, happens, moment_mentions, position_outlines}
use Rattle.sy_typing.specs.Positions.{act_target, contract_if, count_of, event_target, number_of, position_if, position_under, position_with}
use Rattle.sy_typing.proofs.Existence.{numbered_passes}
use Rattle.sy_events.specs.Declarations.{kind_at}
use Rattle.sy_events.specs.Events.{attribute, number_at}
use Rattle.sy_lower.specs.Basis.{Basis, frame}
use Rattle.sy_lower.specs.Values.{value_as, value_of}
use Rattle.sy_lower.specs.Events.{event_number, event_of, guard_at, guard_of, guard_value, guarded, outer, position_in, situation_in, situation_of, state_target}
use Rattle.sy_lower.specs.Dates.{are_few, base_of, date_of, date_term, duration_of, durations_of, fixed, lasting, lengthened}
use Rattle.sy_lower.specs.Parts.{all_there, that_passes}
use Rattle.sy_lower.specs.Propositions.{after, atom_or, before, happening, holding, lowered, lowered_step, occurs, pair, trigger, within}
use Rattle.sy_lower.specs.Positions.{obligation, positions, postconditions, power}
use Rattle.sy_lower.proofs.Optional.{all_passing, if_passing, of_any_map, of_any_then, of_map, of_pair, of_then, weaken}

-- ---- a position's form decides

-- a test of the form that is there
abbrev passes : (Form → Bool) → Option Form → Bool
passes test None = false
passes test (Some form) = test form

passes_of_forms : (test : Form → Bool) (ps : List Position) (i : ℕ)
    → sound.form_passes test (slice_get ps i) ≡ passes test (slice_get (map (λ p. p.form) ps) i)
passes_of_forms test [] i = refl
passes_of_forms test (p ∷ ps) zero = refl
passes_of_forms test (p ∷ ps) (suc i) = passes_of_forms test ps i

same_passes : (test : Form → Bool) (ps qs : List Position) → map (λ p. p.form) ps ≡ map (λ p. p.form) qs → (i : ℕ)
    → sound.form_passes test (slice_get ps i) ≡ sound.form_passes test (slice_get qs i)
same_passes test ps qs same i =
    passes_of_forms test ps i ∙ ap (λ forms. passes test (slice_get forms i)) same ∙ sym (passes_of_forms test qs i)

-- ---- whether a value is one of a kind goes by the unit and the enumerations

fits : (a b : Deed) → a.unit ≡ b.unit → a.choices ≡ b.choices → (kind : ValueKind) (value : Value)
    → is_value_of a kind value ≡ is_value_of b kind value
fits a b u c K.Number (V.Number n) = refl
fits a b u c K.Number (V.Text t) = refl
fits a b u c K.Number (V.Boolean t) = refl
fits a b u c K.Number (V.Date p) = refl
fits a b u c K.Number (V.Choice e i) = refl
fits a b u c K.Text (V.Number n) = refl
fits a b u c K.Text (V.Text t) = refl
fits a b u c K.Text (V.Boolean t) = refl
fits a b u c K.Text (V.Date p) = refl
fits a b u c K.Text (V.Choice e i) = refl
fits a b u c K.Boolean (V.Number n) = refl
fits a b u c K.Boolean (V.Text t) = refl
fits a b u c K.Boolean (V.Boolean t) = refl
fits a b u c K.Boolean (V.Date p) = refl
fits a b u c K.Boolean (V.Choice e i) = refl
fits a b u c K.Date (V.Number n) = refl
fits a b u c K.Date (V.Text t) = refl
fits a b u c K.Date (V.Boolean t) = refl
fits a b u c K.Date (V.Date p) = ap (λ unit. is_dated unit p) u
fits a b u c K.Date (V.Choice e i) = refl
fits a b u c (K.Choice f) (V.Number n) = refl
fits a b u c (K.Choice f) (V.Text t) = refl
fits a b u c (K.Choice f) (V.Boolean t) = refl
fits a b u c (K.Choice f) (V.Date p) = refl
fits a b u c (K.Choice f) (V.Choice e i) = ap (λ choices. (f == e) && is_constant_of i (slice_get choices f)) c

module _ (b : Basis) (deed : Deed)
    (unit : deed.unit ≡ b.environment.unit)
    (choices : deed.choices ≡ b.declared.choices)
    (linked : map (λ e. e.attrs) deed.events ≡ map (map attribute) b.declared.kinds)
    (forms : map (λ p. p.form) deed.positions ≡ map (λ p. p.form) (position_outlines b.things.domain.table b.contract)) where
  -- ---- guards and declared events

  abbrev Sound : {A : Type 0} → (A → Bool) → A → Type 0
  Sound test x = test x ≡ true

  value_sound : (kind : ValueKind) (item : Option Item)
      → IfSome (value_as (frame b) b.declared.choice_numbers kind item) (λ v. is_value_of deed kind v ≡ true)
  value_sound kind None = tt
  value_sound kind (Some (I.Parameter i)) = tt
  value_sound kind (Some (I.Declaration i)) = tt
  value_sound kind (Some (I.Value known)) =
      weaken (λ v. is_value_of (frame b) kind v ≡ true) (λ v. is_value_of deed kind v ≡ true) (λ v h. fits deed (frame b) unit choices kind v ∙ h)
      (option_and_then (that_passes (is_value_of (frame b) kind)) (value_of b.declared.choice_numbers known))
      (if_passing (is_value_of (frame b) kind) (value_of b.declared.choice_numbers known))

  guard_at_sound : (guard : GuardTree) (kinds : List (List ℕ × ValueKind)) (place : ℕ) (entry : List ℕ × ValueKind)
      → slice_get kinds place ≡ Some entry
      → IfSome (guard_at b guard (place, entry.1)) (λ g. sound.is_guard_at deed g (slice_get (map attribute kinds) g.attr) ≡ true)
  guard_at_sound guard kinds place entry there =
      of_map (λ value. record { attr = place; cmp = guard.cmp.cmp; value = value }) (λ v. is_value_of deed entry.1 v ≡ true)
      (λ (g : Guard). sound.is_guard_at deed g (slice_get (map attribute kinds) g.attr) ≡ true)
      (λ v h. ap (sound.is_guard_at deed (record { attr = place; cmp = guard.cmp.cmp; value = v })) (slice_get-map attribute kinds place ∙ ap (option_map attribute) there) ∙ h)
      (guard_value b guard.value entry.1) (value_sound entry.1 (rhs_item b.things b.environment guard.value))

  guard_sound : (kinds : List (List ℕ × ValueKind)) (guard : GuardTree)
      → IfSome (guard_of b kinds guard) (λ g. sound.is_guard_at deed g (slice_get (map attribute kinds) g.attr) ≡ true)
  guard_sound kinds guard = at (position (same guard.name.text) (keys_of kinds))
    where
      Fine : Guard → Type 0
      Fine g = sound.is_guard_at deed g (slice_get (map attribute kinds) g.attr) ≡ true

      entry_at : (place : ℕ) (entry : Option (List ℕ × ValueKind)) → slice_get kinds place ≡ entry
          → IfSome (option_and_then (guard_at b guard) (option_map (λ (e : List ℕ × ValueKind). (place, e.1)) entry)) Fine
      entry_at place None there = tt
      entry_at place (Some entry) there = guard_at_sound guard kinds place entry there

      at : (o : Option ℕ)
          → IfSome (option_and_then (guard_at b guard) (option_and_then (λ place. option_map (λ (entry : List ℕ × ValueKind). (place, entry.1)) (slice_get kinds place)) o)) Fine
      at None = tt
      at (Some place) = entry_at place (slice_get kinds place) refl

  -- the attributes of the event that is there
  attrs_at : (n : ℕ) (kinds : List (List ℕ × ValueKind)) → slice_get b.declared.kinds n ≡ Some kinds
      → option_map (λ (e : EventDecl). e.attrs) (slice_get deed.events n) ≡ Some (map attribute kinds)
  attrs_at n kinds there =
      sym (slice_get-map (λ (e : EventDecl). e.attrs) deed.events n) ∙ ap (λ l. slice_get l n) linked
      ∙ slice_get-map (map attribute) b.declared.kinds n ∙ ap (option_map (map attribute)) there

  guards_sound : (guards : List Guard) (event : Option EventDecl) (attrs : List AttrDecl)
      → option_map (λ (e : EventDecl). e.attrs) event ≡ Some attrs
      → list_all (λ g. sound.is_guard_at deed g (slice_get attrs g.attr)) guards ≡ true
      → sound.are_guards_at deed guards event ≡ true
  guards_sound guards None attrs there h = absurd (none-some attrs there)
  guards_sound guards (Some event) attrs there h =
      ap (λ (l : List AttrDecl). list_all (λ g. sound.is_guard_at deed g (slice_get l g.attr)) guards) (same_Some event.attrs attrs there) ∙ h

  outer_sound : (guards : List GuardTree) (n : ℕ) → IfSome (outer b guards n) (Sound (sound.is_sound_event deed))
  outer_sound guards n = at (slice_get b.declared.kinds n) refl
    where
      at : (o : Option (List (List ℕ × ValueKind))) → slice_get b.declared.kinds n ≡ o
          → IfSome (option_and_then (guarded b guards n) o) (Sound (sound.is_sound_event deed))
      at None there = tt
      at (Some kinds) there =
          of_map (λ list. Outer n list) (λ list. list_all (λ g. sound.is_guard_at deed g (slice_get (map attribute kinds) g.attr)) list ≡ true)
          (Sound (sound.is_sound_event deed))
          (λ list h. guards_sound list (slice_get deed.events n) (map attribute kinds) (attrs_at n kinds there) h)
          (all_there (map (guard_of b kinds) guards))
          (all_passing (guard_of b kinds) (λ g. sound.is_guard_at deed g (slice_get (map attribute kinds) g.attr)) (guard_sound kinds) guards)

  -- ---- targets

  -- a position that is there and passes a test of its form
  targeted : (test : Form → Bool) (form : Form) (i : ℕ) (P : Target → Type 0)
      → ((j : ℕ) → sound.form_passes test (slice_get deed.positions j) ≡ true → P (T.Position j))
      → IfSome (position_if b.contract (test form) form i) P
  targeted test form i P gives = at (nat_lt i (count_of b.contract form) && test form) refl
    where
      at : (c : Bool) → (nat_lt i (count_of b.contract form) && test form) ≡ c
          → IfSome (if c then Some (T.Position (number_of b.contract form i)) else None) P
      at false e = tt
      at true e =
          let lt = ltb-true i (count_of b.contract form) (and_left (nat_lt i (count_of b.contract form)) (test form) e) in
          let takes = and_right (nat_lt i (count_of b.contract form)) (test form) e in
          gives (number_of b.contract form i)
          (same_passes test deed.positions (position_outlines b.things.domain.table b.contract) forms (number_of b.contract form i)
          ∙ numbered_passes b.things.domain.table b.contract test form i lt ∙ takes)

  contracted : (c : Bool) (P : Target → Type 0) → (c ≡ true → P T.Contract) → IfSome (contract_if c) P
  contracted true P gives = gives refl
  contracted false P gives = tt

  inner_target : (kind : Kind) (target : TargetTree)
      → IfSome (event_target b.things.domain.table b.contract kind target) (λ t. sound.is_sound_inner deed kind t ≡ true)
  inner_target kind (Trees.Named name) = at (meaning_in b.things.domain.table name.text)
    where
      at : (m : Option Meaning) → IfSome (position_with b.contract kind m) (λ t. sound.is_sound_inner deed kind t ≡ true)
      at None = tt
      at (Some (M.Type sort)) = tt
      at (Some (M.Constant of i)) = tt
      at (Some (M.Parameter i)) = tt
      at (Some (M.Declaration i)) = tt
      at (Some (M.Position form i)) = targeted (λ f. sound.is_kind_of f kind) form i (λ t. sound.is_sound_inner deed kind t ≡ true) (λ j h. h)
  inner_target kind (Trees.Contract place) =
      contracted (sound.is_contract_kind kind) (λ t. sound.is_sound_inner deed kind t ≡ true) (λ h. h)

  act_target_sound : (verb : Verb) (target : TargetTree)
      → IfSome (act_target b.things.domain.table b.contract verb target) (λ t. sound.is_sound_act deed verb t ≡ true)
  act_target_sound verb (Trees.Named name) = at (meaning_in b.things.domain.table name.text)
    where
      at : (m : Option Meaning) → IfSome (position_under b.contract verb m) (λ t. sound.is_sound_act deed verb t ≡ true)
      at None = tt
      at (Some (M.Type sort)) = tt
      at (Some (M.Constant of i)) = tt
      at (Some (M.Parameter i)) = tt
      at (Some (M.Declaration i)) = tt
      at (Some (M.Position form i)) = targeted (λ f. sound.is_act_on f verb) form i (λ t. sound.is_sound_act deed verb t ≡ true) (λ j h. h)
  act_target_sound verb (Trees.Contract place) =
      contracted (sound.is_contract_act verb) (λ t. sound.is_sound_act deed verb t ≡ true) (λ h. h)

  state_target_sound : (state : StateOf) (target : TargetTree)
      → IfSome (state_target b.things.domain.table b.contract state target) (λ t. sound.is_sound_state deed t state ≡ true)
  state_target_sound state (Trees.Named name) = at (meaning_in b.things.domain.table name.text)
    where
      at : (m : Option Meaning) → IfSome (position_in b.contract state m) (λ t. sound.is_sound_state deed t state ≡ true)
      at None = tt
      at (Some (M.Type sort)) = tt
      at (Some (M.Constant of i)) = tt
      at (Some (M.Parameter i)) = tt
      at (Some (M.Declaration i)) = tt
      at (Some (M.Position form i)) = targeted (λ f. sound.is_state_of f state) form i (λ t. sound.is_sound_state deed t state ≡ true) (λ j h. h)
  state_target_sound state (Trees.Contract place) =
      contracted (sound.is_contract_state state) (λ t. sound.is_sound_state deed t state ≡ true) (λ h. h)

  -- ---- events, situations and dates

  event_sound : (tree : EventTree) → IfSome (event_of b tree) (Sound (sound.is_sound_event deed))
  event_sound (Event.Declared name guards) =
      of_any_then (outer b guards) (Sound (sound.is_sound_event deed)) (outer_sound guards) (event_number b.declared (meaning_of b.things name.text))
  event_sound (Event.Internal kind place target) =
      of_map (λ t. Inner kind t) (λ t. sound.is_sound_inner deed kind t ≡ true) (Sound (sound.is_sound_event deed)) (λ t h. h)
      (event_target b.things.domain.table b.contract kind target) (inner_target kind target)

  situation_sound : (tree : SituationTree) → IfSome (situation_of b tree) (Sound (sound.is_sound_situation deed))
  situation_sound tree =
      of_any_then (situation_in b tree) (Sound (sound.is_sound_situation deed))
      (λ state. of_map (λ target. record { target = target; equal = tree.equal; state = state }) (λ t. sound.is_sound_state deed t state ≡ true)
      (Sound (sound.is_sound_situation deed)) (λ t h. h)
      (state_target b.things.domain.table b.contract state tree.target) (state_target_sound state tree.target))
      (state_named tree.state.text)

  fixed_sound : (point : Option ℤ) → IfSome (fixed b.environment.unit point) (Sound (sound.is_sound_base deed))
  fixed_sound point =
      of_map (λ p. Fixed p) (Sound (is_dated b.environment.unit)) (Sound (sound.is_sound_base deed)) (λ p h. ap (λ u. is_dated u p) unit ∙ h)
      (option_and_then (that_passes (is_dated b.environment.unit)) point) (if_passing (is_dated b.environment.unit) point)

  base_sound : (tree : MomentTree) → IfSome (base_of b tree) (Sound (sound.is_sound_base deed))
  base_sound (Moment.Fixed date) = fixed_sound (date_point b.environment.unit date.text)
  base_sound (Moment.Path path) = fixed_sound (date_of (path_item b.things b.environment path))
  base_sound (Moment.Time place event) =
      of_map (λ ev. First ev) (Sound (sound.is_sound_event deed)) (Sound (sound.is_sound_base deed)) (λ ev h. h) (event_of b event) (event_sound event)

  duration_sound : (tree : DurationTree) → IfSome (duration_of b.things b.environment tree) (Sound (sound.is_duration_of deed.unit))
  duration_sound tree =
      subst (λ u. IfSome (duration_of b.things b.environment tree) (Sound (sound.is_duration_of u))) (sym unit)
      (if_passing (sound.is_duration_of b.environment.unit)
      (option_map (λ n. record { count = n; measure = tree.measure.measure }) (count_in b.things b.environment tree.measure.measure tree.count)))

  -- at most eight durations, each of the unit
  abbrev AreDurations : List Duration → Type 0
  AreDurations plus = (nat_le (length plus) 8 ≡ true) × (list_all (sound.is_duration_of deed.unit) plus ≡ true)

  durations_sound : (trees : List DurationTree) → IfSome (durations_of b.things b.environment trees) AreDurations
  durations_sound trees =
      of_then (that_passes are_few) (λ plus. list_all (sound.is_duration_of deed.unit) plus ≡ true) AreDurations
      (λ plus h. at plus h (are_few plus) refl)
      (all_there (map (duration_of b.things b.environment) trees))
      (all_passing (duration_of b.things b.environment) (sound.is_duration_of deed.unit) duration_sound trees)
    where
      at : (plus : List Duration) → list_all (sound.is_duration_of deed.unit) plus ≡ true → (c : Bool) → are_few plus ≡ c
          → IfSome (if c then Some plus else None) AreDurations
      at plus h true e = (e, h)
      at plus h false e = tt

  date_sound : (tree : DateTree) → IfSome (date_term b tree) (Sound (sound.is_sound_date deed))
  date_sound tree =
      of_then (lengthened b tree.plus) (Sound (sound.is_sound_base deed)) (Sound (sound.is_sound_date deed))
      (λ base h. of_map (λ plus. record { base = base; plus = plus }) AreDurations (Sound (sound.is_sound_date deed))
      (λ plus k. λ j. h j && k.0 j && k.1 j)
      (durations_of b.things b.environment tree.plus) (durations_sound tree.plus))
      (base_of b tree.moment) (base_sound tree.moment)

  -- ---- propositions

  prop_const : (value : Bool) → sound.is_sound_prop deed (Prop.Const value) ≡ true
  prop_const value = ap (sound.is_sound_prop deed) (sym (Prop.rolls-Const value)) ∙ fold-roll-Prop Bool (sound.is_sound_step deed) (P.Const value)

  prop_not : (part : Prop) → sound.is_sound_prop deed (Prop.Not part) ≡ sound.is_sound_prop deed part
  prop_not part = ap (sound.is_sound_prop deed) (sym (Prop.rolls-Not part)) ∙ fold-roll-Prop Bool (sound.is_sound_step deed) (P.Not part)

  prop_all : (parts : List Prop) → sound.is_sound_prop deed (Prop.All parts) ≡ list_all (λ c. c) (map (sound.is_sound_prop deed) parts)
  prop_all parts = ap (sound.is_sound_prop deed) (sym (Prop.rolls-All parts)) ∙ fold-roll-Prop Bool (sound.is_sound_step deed) (P.All parts)

  prop_any : (parts : List Prop) → sound.is_sound_prop deed (Prop.Any parts) ≡ list_all (λ c. c) (map (sound.is_sound_prop deed) parts)
  prop_any parts = ap (sound.is_sound_prop deed) (sym (Prop.rolls-Any parts)) ∙ fold-roll-Prop Bool (sound.is_sound_step deed) (P.Any parts)

  prop_happens : (ev : Ev) → sound.is_sound_prop deed (Prop.Happens ev) ≡ sound.is_sound_event deed ev
  prop_happens ev = ap (sound.is_sound_prop deed) (sym (Prop.rolls-Happens ev)) ∙ fold-roll-Prop Bool (sound.is_sound_step deed) (P.Happens ev)

  prop_before : (ev : Ev) (to : DateTerm) → sound.is_sound_prop deed (Prop.Before ev to) ≡ (sound.is_sound_event deed ev && sound.is_sound_date deed to)
  prop_before ev to = ap (sound.is_sound_prop deed) (sym (Prop.rolls-Before ev to)) ∙ fold-roll-Prop Bool (sound.is_sound_step deed) (P.Before ev to)

  prop_after : (ev : Ev) (from : DateTerm) → sound.is_sound_prop deed (Prop.After ev from) ≡ (sound.is_sound_event deed ev && sound.is_sound_date deed from)
  prop_after ev from = ap (sound.is_sound_prop deed) (sym (Prop.rolls-After ev from)) ∙ fold-roll-Prop Bool (sound.is_sound_step deed) (P.After ev from)

  prop_within : (ev : Ev) (from to : DateTerm)
      → sound.is_sound_prop deed (Prop.Within ev from to) ≡ (sound.is_sound_event deed ev && sound.is_sound_date deed from && sound.is_sound_date deed to)
  prop_within ev from to =
      ap (sound.is_sound_prop deed) (sym (Prop.rolls-Within ev from to)) ∙ fold-roll-Prop Bool (sound.is_sound_step deed) (P.Within ev from to)

  prop_occurs : (s : Situation) (from to : DateTerm)
      → sound.is_sound_prop deed (Prop.Occurs s from to) ≡ (sound.is_sound_situation deed s && sound.is_sound_date deed from && sound.is_sound_date deed to)
  prop_occurs s from to =
      ap (sound.is_sound_prop deed) (sym (Prop.rolls-Occurs s from to)) ∙ fold-roll-Prop Bool (sound.is_sound_step deed) (P.Occurs s from to)

  prop_holds : (s : Situation) → sound.is_sound_prop deed (Prop.Holds s) ≡ sound.is_sound_situation deed s
  prop_holds s = ap (sound.is_sound_prop deed) (sym (Prop.rolls-Holds s)) ∙ fold-roll-Prop Bool (sound.is_sound_step deed) (P.Holds s)

  -- some events are there
  abbrev AreThere : List InternalEvent → Type 0
  AreThere events = list_all (λ (event : InternalEvent). sound.is_sound_inner deed event.0 event.1) events ≡ true

  there_append : (xs ys : List InternalEvent) → AreThere xs → AreThere ys → AreThere (xs ++ ys)
  there_append xs ys h k =
      list_all-append (λ (event : InternalEvent). sound.is_sound_inner deed event.0 event.1) xs ys ∙ (λ j. h j && k j)

  event_there : (tree : EventTree) → AreThere (event_mentions b.things.domain.table b.contract tree)
  event_there (Event.Declared name guards) = refl
  event_there (Event.Internal kind place target) =
      at (event_target b.things.domain.table b.contract kind target) (inner_target kind target)
    where
      at : (o : Option Target) → IfSome o (λ t. sound.is_sound_inner deed kind t ≡ true) → AreThere (event_if kind o)
      at None h = refl
      at (Some t) h = λ j. h j && true

  date_there : (tree : DateTree) → AreThere (date_mentions b.things.domain.table b.contract tree)
  date_there tree = at tree.moment
    where
      at : (m : MomentTree) → AreThere (moment_mentions b.things.domain.table b.contract m)
      at (Moment.Fixed date) = refl
      at (Moment.Path path) = refl
      at (Moment.Time place event) = event_there event

  each_happens : (events : List InternalEvent) → AreThere events
      → list_all (λ c. c) (map (sound.is_sound_prop deed) (map happens events)) ≡ true
  each_happens [] h = refl
  each_happens (event ∷ events) h =
      let first = prop_happens (Inner event.0 event.1)
      ∙ and_left (sound.is_sound_inner deed event.0 event.1) (list_all (λ (e : InternalEvent). sound.is_sound_inner deed e.0 e.1) events) h in
      let rest = each_happens events
      (and_right (sound.is_sound_inner deed event.0 event.1) (list_all (λ (e : InternalEvent). sound.is_sound_inner deed e.0 e.1) events) h) in
      λ j. first j && rest j

  -- an atom, or what stands for it
  atom_sound : (events : List InternalEvent) (found : Option Prop) → AreThere events → IfSome found (Sound (sound.is_sound_prop deed))
      → sound.is_sound_prop deed (atom_or events found) ≡ true
  atom_sound events None there h = prop_any (map happens events) ∙ each_happens events there
  atom_sound events (Some p) there h = h

  abbrev N : EventTree → List InternalEvent
  N = event_mentions b.things.domain.table b.contract

  abbrev D : DateTree → List InternalEvent
  D = date_mentions b.things.domain.table b.contract

  happening_sound : (ev : EventTree) → IfSome (happening b ev) (Sound (sound.is_sound_prop deed))
  happening_sound ev =
      of_map (λ x. Prop.Happens x) (Sound (sound.is_sound_event deed)) (Sound (sound.is_sound_prop deed)) (λ x h. prop_happens x ∙ h) (event_of b ev) (event_sound ev)

  abbrev Both : Ev × DateTerm → Type 0
  Both p = Sound (sound.is_sound_event deed) p.0 × Sound (sound.is_sound_date deed) p.1

  before_sound : (ev : EventTree) (to : DateTree) → IfSome (before b ev to) (Sound (sound.is_sound_prop deed))
  before_sound ev to =
      of_map (λ (p : Ev × DateTerm). Prop.Before p.0 p.1) Both (Sound (sound.is_sound_prop deed))
      (λ p h. prop_before p.0 p.1 ∙ (λ j. h.0 j && h.1 j)) (pair (event_of b ev) (date_term b to))
      (of_pair (Sound (sound.is_sound_event deed)) (Sound (sound.is_sound_date deed)) (event_of b ev) (date_term b to) (event_sound ev) (date_sound to))

  after_sound : (ev : EventTree) (from : DateTree) → IfSome (after b ev from) (Sound (sound.is_sound_prop deed))
  after_sound ev from =
      of_map (λ (p : Ev × DateTerm). Prop.After p.0 p.1) Both (Sound (sound.is_sound_prop deed))
      (λ p h. prop_after p.0 p.1 ∙ (λ j. h.0 j && h.1 j)) (pair (event_of b ev) (date_term b from))
      (of_pair (Sound (sound.is_sound_event deed)) (Sound (sound.is_sound_date deed)) (event_of b ev) (date_term b from) (event_sound ev) (date_sound from))

  abbrev Dates : DateTerm × DateTerm → Type 0
  Dates p = Sound (sound.is_sound_date deed) p.0 × Sound (sound.is_sound_date deed) p.1

  dates_sound : (from to : DateTree) → IfSome (pair (date_term b from) (date_term b to)) Dates
  dates_sound from to =
      of_pair (Sound (sound.is_sound_date deed)) (Sound (sound.is_sound_date deed)) (date_term b from) (date_term b to) (date_sound from) (date_sound to)

  within_sound : (ev : EventTree) (from to : DateTree) → IfSome (within b ev from to) (Sound (sound.is_sound_prop deed))
  within_sound ev from to =
      of_map (λ (p : Ev × (DateTerm × DateTerm)). Prop.Within p.0 p.1.0 p.1.1) (λ p. Sound (sound.is_sound_event deed) p.0 × Dates p.1)
      (Sound (sound.is_sound_prop deed)) (λ p h. prop_within p.0 p.1.0 p.1.1 ∙ (λ j. h.0 j && h.1.0 j && h.1.1 j))
      (pair (event_of b ev) (pair (date_term b from) (date_term b to)))
      (of_pair (Sound (sound.is_sound_event deed)) Dates (event_of b ev) (pair (date_term b from) (date_term b to)) (event_sound ev) (dates_sound from to))

  occurs_sound : (sit : SituationTree) (from to : DateTree) → IfSome (occurs b sit from to) (Sound (sound.is_sound_prop deed))
  occurs_sound sit from to =
      of_map (λ (p : Situation × (DateTerm × DateTerm)). Prop.Occurs p.0 p.1.0 p.1.1) (λ p. Sound (sound.is_sound_situation deed) p.0 × Dates p.1)
      (Sound (sound.is_sound_prop deed)) (λ p h. prop_occurs p.0 p.1.0 p.1.1 ∙ (λ j. h.0 j && h.1.0 j && h.1.1 j))
      (pair (situation_of b sit) (pair (date_term b from) (date_term b to)))
      (of_pair (Sound (sound.is_sound_situation deed)) Dates (situation_of b sit) (pair (date_term b from) (date_term b to)) (situation_sound sit) (dates_sound from to))

  holding_sound : (sit : SituationTree) → IfSome (holding b sit) (Sound (sound.is_sound_prop deed))
  holding_sound sit =
      of_map (λ s. Prop.Holds s) (Sound (sound.is_sound_situation deed)) (Sound (sound.is_sound_prop deed)) (λ s h. prop_holds s ∙ h)
      (situation_of b sit) (situation_sound sit)

  abbrev IsSoundTree : PropTree → Type 0
  IsSoundTree tree = sound.is_sound_prop deed (lowered b tree) ≡ true

  parts_sound : (parts : List ((tree : PropTree) × IsSoundTree tree))
      → list_all (λ c. c) (map (sound.is_sound_prop deed) (map (lowered b) (map (λ e. e.0) parts))) ≡ true
  parts_sound [] = refl
  parts_sound (e ∷ parts) = let rest = parts_sound parts in λ j. e.1 j && rest j

  layer_sound : (y : PropTree-F ((tree : PropTree) × IsSoundTree tree))
      → sound.is_sound_prop deed (lowered_step b (map-PropTree PropTree Prop (lowered b) (map-PropTree ((tree : PropTree) × IsSoundTree tree) PropTree (λ e. e.0) y))) ≡ true
  layer_sound (Tree.Const value first) = prop_const value
  layer_sound (Tree.Not e first) = prop_not (lowered b e.0) ∙ e.1
  layer_sound (Tree.All parts first) = prop_all (map (lowered b) (map (λ (e : (tree : PropTree) × IsSoundTree tree). e.0) parts)) ∙ parts_sound parts
  layer_sound (Tree.Any parts first) = prop_any (map (lowered b) (map (λ (e : (tree : PropTree) × IsSoundTree tree). e.0) parts)) ∙ parts_sound parts
  layer_sound (Tree.Compare left cmp right first) = prop_const (comparison_holds b.things b.environment left cmp right)
  layer_sound (Tree.Happens ev first) = atom_sound (N ev) (happening b ev) (event_there ev) (happening_sound ev)
  layer_sound (Tree.Before ev to first) =
      atom_sound (N ev ++ D to) (before b ev to) (there_append (N ev) (D to) (event_there ev) (date_there to)) (before_sound ev to)
  layer_sound (Tree.After ev from first) =
      atom_sound (N ev ++ D from) (after b ev from) (there_append (N ev) (D from) (event_there ev) (date_there from)) (after_sound ev from)
  layer_sound (Tree.Within ev from to first) =
      atom_sound (N ev ++ (D from ++ D to)) (within b ev from to)
      (there_append (N ev) (D from ++ D to) (event_there ev) (there_append (D from) (D to) (date_there from) (date_there to))) (within_sound ev from to)
  layer_sound (Tree.Occurs sit from to first) =
      atom_sound (D from ++ D to) (occurs b sit from to) (there_append (D from) (D to) (date_there from) (date_there to)) (occurs_sound sit from to)
  layer_sound (Tree.Holds sit first) = atom_sound [] (holding b sit) refl (holding_sound sit)

  pub lowered_sound : (tree : PropTree) → IsSoundTree tree
  lowered_sound = ind-PropTree IsSoundTree (λ x y is.
      let parts = λ (z : PropTree-F ((tree : PropTree) × IsSoundTree tree)). map-PropTree ((tree : PropTree) × IsSoundTree tree) PropTree (λ e. e.0) z in
      subst (λ (z : PropTree-F PropTree). IsSoundTree (roll-PropTree z)) is
      (ap (sound.is_sound_prop deed) (fold-roll-PropTree Prop (lowered_step b) (parts y)) ∙ layer_sound y))

  -- ---- positions

  trigger_sound : (tree : Option PropTree) → sound.is_sound_prop deed (trigger b tree) ≡ true
  trigger_sound None = prop_const true
  trigger_sound (Some tree) = lowered_sound tree

  owed_sound : (form : Form) → is_obligation form ≡ true → (o : ObligTree) → sound.is_sound_position deed (obligation b form o) ≡ true
  owed_sound form owed o =
      let t = trigger_sound o.trigger in
      let a = lowered_sound o.antecedent in
      let c = lowered_sound o.consequent in
      λ j. t j && a j && (owed j && c j)

  act_sound : (act : ActTree) → sound.is_sound_goal deed Form.Power (act_outline b.things.domain.table b.contract act) ≡ true
  act_sound act = at (act_target b.things.domain.table b.contract act.verb.verb act.target) (act_target_sound act.verb.verb act.target)
    where
      at : (o : Option Target) → IfSome o (λ t. sound.is_sound_act deed act.verb.verb t ≡ true)
          → sound.is_sound_goal deed Form.Power (act_or_none act.verb.verb o) ≡ true
      at None h = refl
      at (Some t) h = h

  power_sound : (p : PowerTree) → sound.is_sound_position deed (power b p) ≡ true
  power_sound p =
      let t = trigger_sound p.trigger in
      let a = lowered_sound p.antecedent in
      let g = act_sound p.act in
      λ j. t j && a j && g j

  all_mapped : {X Y : Type 0} (test : Y → Bool) (f : X → Y) → ((x : X) → test (f x) ≡ true) → (xs : List X) → list_all test (map f xs) ≡ true
  all_mapped test f gives [] = refl
  all_mapped test f gives (x ∷ xs) = let first = gives x in let rest = all_mapped test f gives xs in λ j. first j && rest j

  pub positions_sound : list_all (sound.is_sound_position deed) (positions b) ≡ true
  positions_sound =
      let test = sound.is_sound_position deed in
      let first = all_mapped test (obligation b Form.Obligation) (owed_sound Form.Obligation refl) b.contract.obligations in
      let second = all_mapped test (obligation b Form.Surviving) (owed_sound Form.Surviving refl) b.contract.surviving in
      let third = all_mapped test (power b) power_sound b.contract.powers in
      list_all-append test (map (obligation b Form.Obligation) b.contract.obligations ++ map (obligation b Form.Surviving) b.contract.surviving)
      (map (power b) b.contract.powers)
      ∙ ap (λ c. c && list_all test (map (power b) b.contract.powers))
      (list_all-append test (map (obligation b Form.Obligation) b.contract.obligations) (map (obligation b Form.Surviving) b.contract.surviving))
      ∙ (λ j. first j && second j && third j)

  pub posts_sound : list_all (sound.is_sound_prop deed) (postconditions b) ≡ true
  posts_sound = all_mapped (sound.is_sound_prop deed) (lowered b) lowered_sound b.contract.postconditions
