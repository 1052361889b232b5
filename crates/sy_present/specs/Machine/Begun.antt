-- What a position has as a point begins.
use Rattle.std.specs.Prelude.{false}
use Rattle.sy_machines.specs.declared.fired.Fired.{Fired}
use Rattle.sy_present.specs.declared.done.Done.{Done}
use Rattle.sy_present.specs.declared.place.Place.{Place}

-- nothing was done to it
abbrev pub nothing_done : Done
nothing_done = record { suspends = false; resumes = false; discharges = false; terminates = false; triggers = false }

-- none of its internal events happened
abbrev pub none_fired : Fired
none_fired = record { exerted = false; triggered = false; activated = false; resumed = false; suspended = false; fulfilled = false; violated = false; expired = false; discharged = false; terminated = false; completed = false }

-- the place with nothing told of the present point
abbrev pub begun : Place → Place
begun place = record {
  form = place.form;
  state = place.state;
  violated = place.violated;
  exerted = place.exerted;
  asked = false;
  done = nothing_done;
  fired = none_fired;
}
