-- What a position has after the present point.
use Rattle.std.specs.Prelude.{ℕ, ◌+◌, ℤ, Bool, List, [], ◌∷◌, Option, Some, None, if◌then◌else◌}
use Rattle.sy_core.specs.declared.kind.Target.TheVariants as T
use Rattle.sy_core.specs.declared.state.StateOf.{StateOf}
use Rattle.sy_core.specs.States.{state_after}
use Rattle.sy_machines.specs.Fired.{has}
use Rattle.sy_quiet.specs.Histories.{History, setting}
use Rattle.sy_present.specs.declared.place.Place.{Place}

-- the first point, where there was one, or else this one, if it happens here
abbrev pub first_with : Option ℤ → Bool → ℤ → Option ℤ
first_with (Some first) here point = Some first
first_with None here point = if here then Some point else None

-- the state after the present point
abbrev pub state_next : Place → StateOf
state_next place = state_after place.form (has place.fired) place.state

-- the place after the present point, which is this one
abbrev pub settled : ℤ → Place → Place
settled point place = record {
  form = place.form;
  state = state_next place;
  violated = first_with place.violated place.fired.violated point;
  exerted = first_with place.exerted place.fired.exerted point;
  asked = place.asked;
  done = place.done;
  fired = place.fired;
}

-- the states after the present point are set of the positions that have these places, from number i on
abbrev pub setting_from : ℕ → List Place → History → History
setting_from i [] h = h
setting_from i (place ∷ places) h = setting_from (i + 1) places (setting (T.Position i) (state_next place) h)
