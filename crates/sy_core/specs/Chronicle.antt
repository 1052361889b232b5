-- What a narrative makes of a deed, point by point from start.
-- At start every position is Null and the contract is in effect. The internal events of a point are what the conditions give in rounds: each
-- is applied to all events at once, beginning with none, as many times as the deed has internal events. The states after a point are those
-- that its internal events give, and else they stay.
use Rattle.std.specs.Prelude.{ℕ, zero, suc, ℤ, pos, ◌+ℤ◌, Bool, false, ◌==◌, List, [], ◌∷◌, Option, Some, None, slice_get, map, filter}
use Rattle.std.specs.Ordering.{int_eq}
use Rattle.std.specs.List.{list_any}
use Rattle.sy_core.specs.declared.kind.Target.{Target}
use Rattle.sy_core.specs.declared.kind.Target.TheVariants as T
use Rattle.sy_core.specs.declared.state.StateOf.{StateOf}
use Rattle.sy_core.specs.declared.state.StateOf.TheVariants as S
use Rattle.sy_core.specs.declared.event.Ev.{Ev}
use Rattle.sy_core.specs.declared.event.Ev.TheVariants.{Outer, Inner}
use Rattle.sy_core.specs.declared.position.Position.{Position}
use Rattle.sy_core.specs.declared.deed.Deed.{Deed}
use Rattle.sy_core.specs.declared.happening.What.{What}
use Rattle.sy_core.specs.declared.happening.What.TheVariants.{Event, Exert}
use Rattle.sy_core.specs.declared.happening.Happening.{Happening}
use Rattle.sy_core.specs.Matching.{matches}
use Rattle.sy_core.specs.Moments.{Moment, up_to}
use Rattle.sy_core.specs.States.{contract_after}
use Rattle.sy_core.specs.Mentions.{InternalEvent}
use Rattle.sy_core.specs.Conditions.{next_state, fires, count_events}
use Rattle.sy_core.specs.Rounds.{rounds}

-- what the narrative has at a point
abbrev pub at_point : List Happening → ℤ → List What
at_point narrative point = map (λ h. h.what) (filter (λ h. int_eq h.point point) narrative)

-- it is the exertion of power number i
abbrev pub exerts : ℕ → What → Bool
exerts i (Exert power) = i == power
exerts i (Event event values) = false

-- an event stands among what the narrative has at a point, or in the set of internal events
abbrev pub stands : List What → (InternalEvent → Bool) → Ev → Bool
stands happenings set (Outer event guards) = list_any (matches (Outer event guards)) happenings
stands happenings set (Inner kind target) = set (kind, target)

-- a point, with a set of internal events assumed there
abbrev pub assuming : ℤ → List What → (Target → StateOf) → (InternalEvent → Bool) → Moment
assuming point happenings state set = record {
  point = point;
  asked = λ i. list_any (exerts i) happenings;
  seen = stands happenings set;
  state = state;
}

-- the conditions of all events at once: from the set that is assumed to the set of those that are true of it
abbrev pub conditions : Deed → ℤ → List What → (Target → StateOf) → List Moment → (InternalEvent → Bool) → InternalEvent → Bool
conditions deed point happenings state before set event = fires deed (assuming point happenings state set) before event.0 event.1

-- the internal events of a point: as many rounds from none as the deed has internal events
abbrev pub internal_events : Deed → ℤ → List What → (Target → StateOf) → List Moment → InternalEvent → Bool
internal_events deed point happenings state before = rounds (conditions deed point happenings state before) (count_events deed.positions)

-- the states at start
abbrev pub first_state : Target → StateOf
first_state T.Contract = S.InEffect
first_state (T.Position i) = S.Null

-- the state of position number i after a moment; of one that isn't there it stays
abbrev pub position_after : Moment → ℕ → Option Position → StateOf
position_after m i None = m.state (T.Position i)
position_after m i (Some p) = next_state m i p

-- inertia: the states after a moment
abbrev pub states_next : Deed → Moment → Target → StateOf
states_next deed m T.Contract = contract_after (λ kind. m.seen (Inner kind T.Contract)) (m.state T.Contract)
states_next deed m (T.Position i) = position_after m i (slice_get deed.positions i)

-- the states after some moments that follow one another, from the states before them
abbrev pub states_from : Deed → (Target → StateOf) → List Moment → Target → StateOf
states_from deed state [] = state
states_from deed state (m ∷ later) = states_from deed (states_next deed m) later

-- the states after the moments from start on
abbrev pub states_after : Deed → List Moment → Target → StateOf
states_after deed moments = states_from deed first_state moments

-- the moment of a point, after those from start on before it
abbrev pub next_moment : Deed → ℤ → List What → List Moment → Moment
next_moment deed point happenings before =
    assuming point happenings (states_after deed before) (internal_events deed point happenings (states_after deed before) before)

-- some moments, and the one of the next point
abbrev pub and_next : Deed → ℤ → List What → List Moment → List Moment
and_next deed point happenings before = up_to (next_moment deed point happenings before) before

-- the moments of the first n points, from start on
abbrev pub chronicle : Deed → List Happening → ℕ → List Moment
chronicle deed narrative zero = []
chronicle deed narrative (suc n) =
    and_next deed (deed.start +ℤ pos n) (at_point narrative (deed.start +ℤ pos n)) (chronicle deed narrative n)

-- the states at the start of the n-th point after start
abbrev pub state_at : Deed → List Happening → ℕ → Target → StateOf
state_at deed narrative n = states_after deed (chronicle deed narrative n)

-- the moment of the n-th point after start
abbrev pub moment_at : Deed → List Happening → ℕ → Moment
moment_at deed narrative n =
    next_moment deed (deed.start +ℤ pos n) (at_point narrative (deed.start +ℤ pos n)) (chronicle deed narrative n)
