-- One pass over events, from the first to the last.
-- Each event is added to the set where its condition is true of what was added so far. No event is taken out again.
use Rattle.std.specs.Prelude.{ℕ, Bool, false, ◌&&◌, ◌||◌, ◌==◌, List, [], ◌∷◌}
use Rattle.sy_words.specs.declared.kind.Kind.{Kind}
use Rattle.sy_words.specs.declared.kind.Kind.TheVariants.{Exerted, Triggered, Activated, Resumed, Suspended, Fulfilled, Violated, Expired, Discharged, Terminated, Completed}
use Rattle.sy_core.specs.Mentions.{InternalEvent, same_target}

-- kinds by number, to compare them
abbrev pub kind_number : Kind → ℕ
kind_number Exerted = 0
kind_number Triggered = 1
kind_number Activated = 2
kind_number Resumed = 3
kind_number Suspended = 4
kind_number Fulfilled = 5
kind_number Violated = 6
kind_number Expired = 7
kind_number Discharged = 8
kind_number Terminated = 9
kind_number Completed = 10

-- two internal events are the same
abbrev pub same_event : InternalEvent → InternalEvent → Bool
same_event a b = (kind_number a.0 == kind_number b.0) && same_target a.1 b.1

-- the set without events
abbrev pub nothing : InternalEvent → Bool
nothing event = false

-- the set with an event added, where something says that it happens
abbrev pub with_event : Bool → InternalEvent → (InternalEvent → Bool) → InternalEvent → Bool
with_event happens event set other = set other || (happens && same_event event other)

-- one pass over some events, from a set on
abbrev pub pass : ((InternalEvent → Bool) → InternalEvent → Bool) → List InternalEvent → (InternalEvent → Bool) → InternalEvent → Bool
pass condition [] set = set
pass condition (event ∷ later) set = pass condition later (with_event (condition set event) event set)
