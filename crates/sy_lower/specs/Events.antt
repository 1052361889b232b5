-- The events and the situations that propositions name, as those of a deed. One that breaks a rule of names, types or ranges is none.
use Rattle.std.specs.Prelude.{ℕ, List, map, slice_get, Option, Some, None, option_map, option_and_then}
use Rattle.sy_words.specs.declared.form.Form.{Form}
use Rattle.sy_core.specs.declared.kind.Target.{Target}
use Rattle.sy_core.specs.declared.kind.Target.TheVariants as T
use Rattle.sy_core.specs.declared.state.StateOf.{StateOf}
use Rattle.sy_core.specs.declared.value.Value.{Value}
use Rattle.sy_core.specs.declared.value.ValueKind.{ValueKind}
use Rattle.sy_core.specs.declared.event.Guard.{Guard}
use Rattle.sy_core.specs.declared.event.Ev.{Ev}
use Rattle.sy_core.specs.declared.event.Ev.TheVariants.{Outer, Inner}
use Rattle.sy_core.specs.declared.proposition.Situation.{Situation}
use Rattle.sy_core.specs.Soundness.{is_contract_state, is_state_of}
use Rattle.sy_core.specs.StateWords.{state_named}
use Rattle.sy_tree.specs.declared.target.TargetTree.{TargetTree}
use Rattle.sy_tree.specs.declared.target.TargetTree.TheVariants as Trees
use Rattle.sy_tree.specs.declared.proposition.GuardTree.{GuardTree}
use Rattle.sy_tree.specs.declared.proposition.EventTree.{EventTree}
use Rattle.sy_tree.specs.declared.proposition.EventTree.TheVariants as Event
use Rattle.sy_tree.specs.declared.proposition.SituationTree.{SituationTree}
use Rattle.sy_tree.specs.declared.term.RhsTree.{RhsTree}
use Rattle.sy_spec.specs.declared.contract.ContractTree.{ContractTree}
use Rattle.sy_domain.specs.declared.meaning.Meaning.{Meaning}
use Rattle.sy_domain.specs.declared.meaning.Meaning.TheVariants as M
use Rattle.sy_domain.specs.Names.{Table, meaning_in}
use Rattle.sy_scope.specs.Scopes.{meaning_of}
use Rattle.sy_typing.specs.Positions.{contract_if, event_target, position_if}
use Rattle.sy_terms.specs.Terms.{rhs_item}
use Rattle.sy_events.specs.Declarations.{Declarations, kind_at}
use Rattle.sy_events.specs.Events.{number_at}
use Rattle.sy_lower.specs.Basis.{Basis, frame}
use Rattle.sy_lower.specs.Parts.{all_there}
use Rattle.sy_lower.specs.Values.{value_as}

-- the number of the event that a name stands for
abbrev pub event_number : Declarations → Option Meaning → Option ℕ
event_number d (Some (M.Declaration i)) = number_at d.event_numbers i
event_number d _ = None

-- the position that a name stands for, where it can be in a state
abbrev pub position_in : ContractTree → StateOf → Option Meaning → Option Target
position_in contract state (Some (M.Position form i)) = position_if contract (is_state_of form state) form i
position_in contract state _ = None

-- the target of a situation: one that can be in the state
abbrev pub state_target : Table → ContractTree → StateOf → TargetTree → Option Target
state_target table contract state (Trees.Named name) = position_in contract state (meaning_in table name.text)
state_target table contract state (Trees.Contract place) = contract_if (is_contract_state state)

module _ (b : Basis) where
  -- what the attribute of a guard is compared with
  abbrev pub guard_value : RhsTree → ValueKind → Option Value
  guard_value rhs kind = value_as (frame b) b.declared.choice_numbers kind (rhs_item b.things b.environment rhs)

  -- a guard of the attribute at a place, of a kind
  abbrev pub guard_at : GuardTree → ℕ × ValueKind → Option Guard
  guard_at guard attribute =
      option_map (λ value. record { attr = attribute.0; cmp = guard.cmp.cmp; value = value }) (guard_value guard.value attribute.1)

  -- a guard of an event whose attributes have these kinds
  abbrev pub guard_of : List (List ℕ × ValueKind) → GuardTree → Option Guard
  guard_of kinds guard = option_and_then (guard_at guard) (kind_at kinds guard.name.text)

  -- an event whose attributes have these kinds, under guards
  abbrev pub guarded : List GuardTree → ℕ → List (List ℕ × ValueKind) → Option Ev
  guarded guards event kinds = option_map (λ list. Outer event list) (all_there (map (guard_of kinds) guards))

  -- the event with a number, under guards
  abbrev pub outer : List GuardTree → ℕ → Option Ev
  outer guards event = option_and_then (guarded guards event) (slice_get b.declared.kinds event)

  -- an event
  abbrev pub event_of : EventTree → Option Ev
  event_of (Event.Declared name guards) = option_and_then (outer guards) (event_number b.declared (meaning_of b.things name.text))
  event_of (Event.Internal kind place target) = option_map (λ t. Inner kind t) (event_target b.things.domain.table b.contract kind target)

  -- what is said of the state with a name
  abbrev pub situation_in : SituationTree → StateOf → Option Situation
  situation_in tree state =
      option_map (λ target. record { target = target; equal = tree.equal; state = state })
      (state_target b.things.domain.table b.contract state tree.target)

  -- a situation
  abbrev pub situation_of : SituationTree → Option Situation
  situation_of tree = option_and_then (situation_in tree) (state_named tree.state.text)
