-- What an internal event that happens changes in what is kept of the positions.
use Rattle.std.specs.Prelude.{◌≡◌, ℕ, Bool, ◌&&◌, ◌||◌, ◌==◌, List, map, Some, slice_get}
use Rattle.sy_words.specs.declared.kind.Kind.{Kind}
use Rattle.sy_words.specs.declared.kind.Kind.TheVariants.{Exerted}
use Rattle.sy_words.specs.declared.verb.Verb.{Verb}
use Rattle.sy_core.specs.declared.kind.Target.{Target}
use Rattle.sy_core.specs.declared.kind.Target.TheVariants as T
use Rattle.sy_core.specs.declared.position.Goal.{Goal}
use Rattle.sy_core.specs.Conditions.{is_act}
use Rattle.sy_passes.specs.Passes.{kind_number, same_event}
use Rattle.sy_machines.specs.Fired.{has}
use Rattle.sy_present.specs.declared.place.Place.{Place}
use Rattle.sy_present.specs.Machine.Told.{has_done}

-- the internal event of a target is this kind of event of another
abbrev pub is_event_of : Kind → Target → Target → Kind → Bool
is_event_of kind target other k = same_event (kind, target) (k, other)

-- an internal event of the position with this goal does this to the target
abbrev pub does_to : Kind → Goal → Target → Verb → Bool
does_to kind goal target verb = (kind_number kind == kind_number Exerted) && is_act verb target goal

-- more happened to the place, and more is done to it; all else is as it was
pub record HasMore (fires : Kind → Bool) (does : Verb → Bool) (old new : Place) : Type 0 where
  pub form : new.form ≡ old.form
  pub state : new.state ≡ old.state
  pub asked : new.asked ≡ old.asked
  pub violated : new.violated ≡ old.violated
  pub exerted : new.exerted ≡ old.exerted
  pub fired : (kind : Kind) → has new.fired kind ≡ (has old.fired kind || fires kind)
  pub done : (verb : Verb) → has_done new.done verb ≡ (has_done old.done verb || does verb)

-- the same of each place
pub record HaveMore (fires : Target → Kind → Bool) (does : Target → Verb → Bool) (old new : List Place) : Type 0 where
  pub forms : map (λ (place : Place). place.form) new ≡ map (λ (place : Place). place.form) old
  pub places : (i : ℕ) (place : Place) → slice_get new i ≡ Some place
      → (before : Place) × (slice_get old i ≡ Some before) × HasMore (fires (T.Position i)) (does (T.Position i)) before place
