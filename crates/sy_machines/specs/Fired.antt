-- Which kinds of internal event have happened to one target at a point.
use Rattle.std.specs.Prelude.{Bool}
use Rattle.sy_words.specs.declared.kind.Kind.{Kind}
use Rattle.sy_words.specs.declared.kind.Kind.TheVariants.{Exerted, Triggered, Activated, Resumed, Suspended, Fulfilled, Violated, Expired, Discharged, Terminated, Completed}
use Rattle.sy_machines.specs.declared.fired.Fired.{Fired}

-- the kind has happened
abbrev pub has : Fired → Kind → Bool
has fired Exerted = fired.exerted
has fired Triggered = fired.triggered
has fired Activated = fired.activated
has fired Resumed = fired.resumed
has fired Suspended = fired.suspended
has fired Fulfilled = fired.fulfilled
has fired Violated = fired.violated
has fired Expired = fired.expired
has fired Discharged = fired.discharged
has fired Terminated = fired.terminated
has fired Completed = fired.completed
