-- When a deed is sound: its numbers name things that are there, its dates, durations, values, acts and goals are of their kinds, no name
-- stands for two things, its limits hold, and its order is the one of its nodes and has them all.
use Rattle.std.specs.Prelude.{◌≡◌, ℕ, Bool, true, false, not, ◌&&◌, List, [], ◌∷◌, Option, Some, None, slice_get, length, map, nat_le, nat_eq, IsTrue, nat_lt}
use Rattle.std.specs.List.{list_any, list_all}
use Rattle.std.specs.Cmp.Lexicographic.{pointwise}
use Rattle.sy_base.specs.declared.time.TimeUnit.{TimeUnit}
use Rattle.sy_base.specs.declared.time.Duration.{Duration}
use Rattle.sy_base.specs.Measures.{is_finer, greatest_count}
use Rattle.sy_base.specs.Points.{IsDated}
use Rattle.sy_words.specs.declared.kind.Kind.{Kind}
use Rattle.sy_words.specs.declared.kind.Kind.TheVariants.{Exerted, Triggered, Activated, Resumed, Suspended, Fulfilled, Violated, Expired, Discharged, Terminated, Completed}
use Rattle.sy_core.specs.declared.kind.Target.{Target}
use Rattle.sy_core.specs.declared.kind.Target.TheVariants as T
use Rattle.sy_core.specs.declared.state.StateOf.{StateOf}
use Rattle.sy_core.specs.declared.state.StateOf.TheVariants as S
use Rattle.sy_core.specs.declared.value.ValueKind.{ValueKind}
use Rattle.sy_core.specs.declared.value.ValueKind.TheVariants as K
use Rattle.sy_core.specs.declared.event.Guard.{Guard}
use Rattle.sy_core.specs.declared.event.Ev.{Ev}
use Rattle.sy_core.specs.declared.event.Ev.TheVariants.{Outer, Inner}
use Rattle.sy_core.specs.declared.date_term.Base.{Base}
use Rattle.sy_core.specs.declared.date_term.Base.TheVariants.{Fixed, First}
use Rattle.sy_core.specs.declared.date_term.DateTerm.{DateTerm}
use Rattle.sy_core.specs.declared.proposition.Situation.{Situation}
use Rattle.sy_core.specs.declared.proposition.Prop.{Prop}
use Rattle.sy_core.specs.declared.proposition.Prop.TheOpen.{Prop-F}
use Rattle.sy_core.specs.declared.proposition.Prop.TheOpen as P
use Rattle.sy_core.specs.declared.proposition.Prop.TheFolds.{fold-Prop}
use Rattle.sy_words.specs.declared.form.Form.{Form}
use Rattle.sy_words.specs.declared.verb.Verb.{Verb}
use Rattle.sy_words.specs.declared.verb.Verb.TheVariants as Verbs
use Rattle.sy_core.specs.declared.position.Goal.{Goal}
use Rattle.sy_core.specs.declared.position.Goal.TheVariants as G
use Rattle.sy_core.specs.declared.position.Position.{Position}
use Rattle.sy_core.specs.declared.deed.AttrDecl.{AttrDecl}
use Rattle.sy_core.specs.declared.deed.EventDecl.{EventDecl}
use Rattle.sy_core.specs.declared.deed.Deed.{Deed}
use Rattle.sy_core.specs.Conditions.{is_power, is_obligation}
use Rattle.sy_core.specs.Values.{is_dated, is_value_of}
use Rattle.sy_core.specs.Orders.{IsAcyclic}
use Rattle.sy_core.specs.Prerequisites.{nodes, numbered_needs, order_of}
use Rattle.sy_core.specs.Limits.{KeepsLimits}

-- the states that a position of a form can be in
abbrev pub is_state_of : Form → StateOf → Bool
is_state_of form S.Null = true
is_state_of form S.Create = true
is_state_of form S.InEffect = true
is_state_of form S.Suspension = true
is_state_of form S.Fulfillment = is_obligation form
is_state_of form S.Violation = is_obligation form
is_state_of form S.Discharge = is_obligation form
is_state_of form S.SuccessfulTermination = is_power form
is_state_of form S.UnsuccessfulTermination = true
is_state_of form S.Form = false

-- the states of the contract that may be named
abbrev pub is_contract_state : StateOf → Bool
is_contract_state S.Null = false
is_contract_state S.Create = false
is_contract_state S.InEffect = true
is_contract_state S.Suspension = true
is_contract_state S.Fulfillment = false
is_contract_state S.Violation = false
is_contract_state S.Discharge = false
is_contract_state S.SuccessfulTermination = true
is_contract_state S.UnsuccessfulTermination = true
is_contract_state S.Form = false

-- the kinds of internal event that a position of a form has
abbrev pub is_kind_of : Form → Kind → Bool
is_kind_of form Exerted = is_power form
is_kind_of form Triggered = true
is_kind_of form Activated = true
is_kind_of form Resumed = true
is_kind_of form Suspended = true
is_kind_of form Fulfilled = is_obligation form
is_kind_of form Violated = is_obligation form
is_kind_of form Expired = true
is_kind_of form Discharged = is_obligation form
is_kind_of form Terminated = true
is_kind_of form Completed = false

-- the kinds of internal event that the contract has
abbrev pub is_contract_kind : Kind → Bool
is_contract_kind Exerted = false
is_contract_kind Triggered = false
is_contract_kind Activated = false
is_contract_kind Resumed = true
is_contract_kind Suspended = true
is_contract_kind Fulfilled = false
is_contract_kind Violated = false
is_contract_kind Expired = false
is_contract_kind Discharged = false
is_contract_kind Terminated = true
is_contract_kind Completed = true

-- what can be done to a position of a form
abbrev pub is_act_on : Form → Verb → Bool
is_act_on form Verbs.Suspends = true
is_act_on form Verbs.Resumes = true
is_act_on form Verbs.Discharges = is_obligation form
is_act_on form Verbs.Terminates = true
is_act_on form Verbs.Triggers = is_obligation form

-- what can be done to the contract
abbrev pub is_contract_act : Verb → Bool
is_contract_act Verbs.Suspends = true
is_contract_act Verbs.Resumes = true
is_contract_act Verbs.Discharges = false
is_contract_act Verbs.Terminates = true
is_contract_act Verbs.Triggers = false

-- a test of the form of the position that is there
abbrev pub form_passes : (Form → Bool) → Option Position → Bool
form_passes test None = false
form_passes test (Some p) = test p.form

-- a duration's measure isn't finer than the unit, and its count is within its limit
abbrev pub is_duration_of : TimeUnit → Duration → Bool
is_duration_of unit duration = not (is_finer duration.measure unit) && nat_le duration.count (greatest_count duration.measure)

-- the enumeration that a kind of value names is there
abbrev pub is_sound_kind : Deed → ValueKind → Bool
is_sound_kind deed K.Number = true
is_sound_kind deed K.Text = true
is_sound_kind deed K.Boolean = true
is_sound_kind deed K.Date = true
is_sound_kind deed (K.Choice e) = nat_lt e (length deed.choices)

-- no two names are the same
abbrev pub are_distinct : List (List ℕ) → Bool
are_distinct [] = true
are_distinct (name ∷ later) = not (list_any (pointwise nat_eq name) later) && are_distinct later

-- the kind of each attribute of an event is there
abbrev pub is_sound_decl : Deed → EventDecl → Bool
is_sound_decl deed event = list_all (λ attr. is_sound_kind deed attr.kind) event.attrs

-- a guard's attribute is there, and its value is of the attribute's kind
abbrev pub is_guard_at : Deed → Guard → Option AttrDecl → Bool
is_guard_at deed guard None = false
is_guard_at deed guard (Some attr) = is_value_of deed attr.kind guard.value

-- each guard is one of the event that is there
abbrev pub are_guards_at : Deed → List Guard → Option EventDecl → Bool
are_guards_at deed guards None = false
are_guards_at deed guards (Some event) = list_all (λ guard. is_guard_at deed guard (slice_get event.attrs guard.attr)) guards

module _ (deed : Deed) where
  -- the target is there, and has events of the kind
  abbrev pub is_sound_inner : Kind → Target → Bool
  is_sound_inner kind T.Contract = is_contract_kind kind
  is_sound_inner kind (T.Position i) = form_passes (λ form. is_kind_of form kind) (slice_get deed.positions i)

  -- the event is there, and its guards are sound
  abbrev pub is_sound_event : Ev → Bool
  is_sound_event (Outer event guards) = are_guards_at deed guards (slice_get deed.events event)
  is_sound_event (Inner kind target) = is_sound_inner kind target

  -- the beginning is a date, or a sound event
  abbrev pub is_sound_base : Base → Bool
  is_sound_base (Fixed point) = is_dated deed.unit point
  is_sound_base (First e) = is_sound_event e

  -- the beginning is sound, and at most eight durations follow, each of the unit
  abbrev pub is_sound_date : DateTerm → Bool
  is_sound_date term = is_sound_base term.base && nat_le (length term.plus) 8 && list_all (is_duration_of deed.unit) term.plus

  -- the target is there, and can be in the state
  abbrev pub is_sound_state : Target → StateOf → Bool
  is_sound_state T.Contract state = is_contract_state state
  is_sound_state (T.Position i) state = form_passes (λ form. is_state_of form state) (slice_get deed.positions i)

  -- the situation's target is there, and can be in its state
  abbrev pub is_sound_situation : Situation → Bool
  is_sound_situation s = is_sound_state s.target s.state

  -- one proposition is sound, with the answer of each part in its place
  abbrev pub is_sound_step : Prop-F Bool → Bool
  is_sound_step (P.Const b) = true
  is_sound_step (P.Not b) = b
  is_sound_step (P.All bs) = list_all (λ b. b) bs
  is_sound_step (P.Any bs) = list_all (λ b. b) bs
  is_sound_step (P.Happens e) = is_sound_event e
  is_sound_step (P.Before e to) = is_sound_event e && is_sound_date to
  is_sound_step (P.After e from) = is_sound_event e && is_sound_date from
  is_sound_step (P.Within e from to) = is_sound_event e && is_sound_date from && is_sound_date to
  is_sound_step (P.Occurs s from to) = is_sound_situation s && is_sound_date from && is_sound_date to
  is_sound_step (P.Holds s) = is_sound_situation s

  -- every event, date and situation in the proposition is sound
  abbrev pub is_sound_prop : Prop → Bool
  is_sound_prop = fold-Prop Bool is_sound_step

  -- the act's target is there, and it can be done to it
  abbrev pub is_sound_act : Verb → Target → Bool
  is_sound_act verb T.Contract = is_contract_act verb
  is_sound_act verb (T.Position i) = form_passes (λ form. is_act_on form verb) (slice_get deed.positions i)

  -- a power's goal is an act, and an obligation's a duty
  abbrev pub is_sound_goal : Form → Goal → Bool
  is_sound_goal form (G.Act act) = is_power form && is_sound_act act.verb act.target
  is_sound_goal form (G.Duty consequent) = is_obligation form && is_sound_prop consequent

  -- all three parts of a position are sound
  abbrev pub is_sound_position : Position → Bool
  is_sound_position p = is_sound_prop p.trigger && is_sound_prop p.antecedent && is_sound_goal p.form p.goal

-- each number names a thing that is there, and each date, duration, value, act and goal is of its kind
pub record HasSoundParts (deed : Deed) : Type 0 where
  pub start_dated : IsDated deed.unit deed.start
  pub events_sound : IsTrue (list_all (is_sound_decl deed) deed.events)
  pub positions_sound : IsTrue (list_all (is_sound_position deed) deed.positions)
  pub posts_sound : IsTrue (list_all (is_sound_prop deed) deed.posts)

-- no two events, no two positions, no two attributes of one event and no two constants of one enumeration have the same name
pub record HasNamesApart (deed : Deed) : Type 0 where
  pub events : IsTrue (are_distinct (map (λ event. event.name) deed.events))
  pub positions : IsTrue (are_distinct (map (λ p. p.name) deed.positions))
  pub attributes : IsTrue (list_all (λ event. are_distinct (map (λ attr. attr.name) event.attrs)) deed.events)
  pub constants : IsTrue (list_all (λ choices. are_distinct choices.names) deed.choices)

-- the order of evaluation is the one of the deed's nodes, and has them all
pub record IsOrdered (deed : Deed) : Type 0 where
  pub listed : deed.order ≡ order_of deed
  pub complete : IsAcyclic (numbered_needs deed) (length (nodes deed))

-- the deed is sound
pub record IsSound (deed : Deed) : Type 0 where
  pub parts : HasSoundParts deed
  pub names : HasNamesApart deed
  pub limits : KeepsLimits deed
  pub ordered : IsOrdered deed
