-- What is kept of a position at the start of a deed.
use Rattle.std.specs.Prelude.{false, None}
use Rattle.sy_core.specs.declared.state.StateOf.TheVariants.{Null}
use Rattle.sy_core.specs.declared.position.Position.{Position}
use Rattle.sy_machines.specs.declared.fired.Fired.{Fired}
use Rattle.sy_present.specs.declared.done.Done.{Done}
use Rattle.sy_present.specs.declared.place.Place.{Place}

-- no power does anything
abbrev pub nothing_done : Done
nothing_done = record { suspends = false; resumes = false; discharges = false; terminates = false; triggers = false }

-- no kind of internal event has happened
abbrev pub nothing_fired : Fired
nothing_fired = record {
  exerted = false;
  triggered = false;
  activated = false;
  resumed = false;
  suspended = false;
  fulfilled = false;
  violated = false;
  expired = false;
  discharged = false;
  terminated = false;
  completed = false;
}

-- the place of a position to which nothing happened yet
abbrev pub fresh_place : Position → Place
fresh_place p = record {
  form = p.form;
  state = Null;
  violated = None;
  exerted = None;
  asked = false;
  done = nothing_done;
  fired = nothing_fired;
}
