-- What a specification declares for its deed.
use Rattle.std.specs.Prelude.{ℕ, List, map, slice_get, Option, option_and_then, option_map, position}
use Rattle.std.specs.Map.{keys_of}
use Rattle.sy_core.specs.declared.value.ValueKind.{ValueKind}
use Rattle.sy_core.specs.declared.deed.Choices.{Choices}
use Rattle.sy_core.specs.declared.deed.EventDecl.{EventDecl}
use Rattle.sy_spec.specs.declared.contract.SpecTree.{SpecTree}
use Rattle.sy_domain.specs.Names.{same}
use Rattle.sy_scope.specs.Scopes.{Things}
use Rattle.sy_events.specs.Enumerations.{choice_numbers, choices_of}
use Rattle.sy_events.specs.Events.{event_declarations, event_numbers, event_of, kinds_of_event}

-- the events and the enumerations, the kinds of each event's attributes by their names, the number of each event by its number among the
-- declarations, and that of each enumeration by its number among the types
pub record Declarations : Type 0 where
  pub events : List EventDecl
  pub choices : List Choices
  pub kinds : List (List (List ℕ × ValueKind))
  pub event_numbers : List (Option ℕ)
  pub choice_numbers : List (Option ℕ)

-- those of a specification
abbrev pub declared_by : Things → SpecTree → Declarations
declared_by s spec =
    let types = spec.domain.types in
    let numbers = choice_numbers types in
    let declarations = spec.contract.declarations in
    record {
      events = map (event_of s numbers) (event_declarations s declarations);
      choices = choices_of types;
      kinds = map (kinds_of_event s numbers) (event_declarations s declarations);
      event_numbers = event_numbers s declarations;
      choice_numbers = numbers;
    }

-- the place and the kind of an attribute by its name
abbrev pub kind_at : List (List ℕ × ValueKind) → List ℕ → Option (ℕ × ValueKind)
kind_at kinds name =
    option_and_then (λ place. option_map (λ entry. (place, entry.1)) (slice_get kinds place)) (position (same name) (keys_of kinds))
